-- Made by `oracle theorems --out crates`.
-- List 18439 of the seed, with what the Rust answered.
use Rattle.base_sha256.specs.Fips
use Rattle.std.specs.Prelude.{true, false, List, [], ◌∷◌, ◌++◌, ◌≡◌, refl, ℕ, replicate}
use Rattle.std.specs.Prelude.{None, Some}
use Rattle.book.specs.Model.{Book}
use Rattle.book.specs.Zero.{zeros, zero_output, zero_spend, zero_bundle, zero_hash, zero_attempt, no_attempt, base_variant}
use Rattle.book.specs.declared.FeeResolution.TheVariants.{Unresolved, Attached}
use Rattle.book.specs.declared.SubmissionChainTerminality.TheVariants.{Active, Landed}
use Rattle.book.specs.declared.SubmissionDeliveryGoal.TheVariants.{EnsureBroadcast}
use Rattle.book.specs.declared.DeliveryTrigger.TheVariants.{Protocol, FreshChain, Rollback, ProviderReadiness}
use Rattle.book_answers.specs.declared.FeeSourceDisposition.TheVariants as disposition
use Rattle.book_answers.specs.declared.SubmissionAttemptRelationship.TheVariants.{Initial}
use Rattle.book_answers.specs.declared.SubmissionAttemptStatus.TheVariants.{Applied, Stale}
use Rattle.book_answers.specs.declared.SubmissionFeeSource.TheVariants as source
use Rattle.rules.specs.Call.{Call, Value, no_value, failures, finalized, fee_intent_is, status_is, ids_are, height_is, attempt_is}
use Rattle.rules.specs.Rule.{Answer, answer, refused}
use Rattle.rules.specs.Opened.{opened}
use Rattle.rules_recorded_lists.specs.Play.{play}
use Rattle.rules_recorded_lists.specs.Pieces.{num, at, by_id, already_paid, no_fee, attach, delivery, hash, attempt, held, fee_bearing, submission, book_of, drained, finalized_as}
use Rattle.rules_recorded_lists.specs.Shared.{digest6, digest25, digest31, digest32, bundle1, bundle2, bundle3}

abbrev pub start : Book
start = book_of 44 18446744073709551614 (
    submission 0 no_attempt (held (attempt 43 EnsureBroadcast digest6 zero_hash)) digest31 bundle3 base_variant Unresolved no_fee (hash digest6) Landed None
    ∷ submission 1 no_attempt no_attempt digest32 bundle2 (fee_bearing bundle1 18446744073709551615) Attached already_paid zero_hash Active (at 50)
    ∷ [])
    ((delivery (by_id 1) bundle2 (at 50) already_paid FreshChain EnsureBroadcast) ∷ (delivery None zero_bundle (at 100) (attach (replicate 32 255) 18446744073709551615) Rollback EnsureBroadcast) ∷ []) [] (at 101) []

abbrev pub calls : List Call
calls =
    Call.ReplayRollbackHeight
    ∷ Call.AbandonAttempt 0
    ∷ Call.Drain
    ∷ Call.ReplayRollbackHeight
    ∷ Call.Attempt 44
    ∷ Call.FeeIntentForAttempt 40
    ∷ Call.FinalizeAttempt 44 source.NotRequested zero_bundle
    ∷ Call.FeeIntentForAttempt 45
    ∷ Call.ActiveIds
    ∷ Call.QueueRetainedDelivery 28 ProviderReadiness EnsureBroadcast
    ∷ Call.AcknowledgeAttempt 44
    ∷ Call.ClearLocalArtifacts
    ∷ Call.CollectRollbackReplayIds (replicate 64 29)
    ∷ Call.AcknowledgeAttempt 47
    ∷ Call.RelinquishCompletedAttempt 41
    ∷ Call.FeeIntentForAttempt 0
    ∷ Call.Queue (delivery None zero_bundle (at 18446744073709551615) (attach (replicate 32 3) 8) Protocol EnsureBroadcast)
    ∷ Call.QueueRetainedDelivery 9 ProviderReadiness EnsureBroadcast
    ∷ Call.EmitRetirement 6
    ∷ Call.Attempt 42
    ∷ []

abbrev pub answers : List (Answer Value)
answers =
    answer [] (height_is (at 101))
    ∷ answer [] (status_is Stale)
    ∷ answer (drained 1 44 None Initial bundle1 (at 50) already_paid ∷ drained 18446744073709551614 45 None Initial zero_bundle (at 100) (attach (replicate 32 255) 18446744073709551615) ∷ []) (failures [])
    ∷ answer [] (height_is (at 101))
    ∷ answer [] (attempt_is (Some (attempt 44 EnsureBroadcast digest25 zero_hash)))
    ∷ answer [] (fee_intent_is None)
    ∷ answer [] (finalized (Some (finalized_as bundle1 18446744073709551615 false disposition.NotRequested digest25 true)))
    ∷ answer [] (fee_intent_is (Some (attach (replicate 32 255) 18446744073709551615)))
    ∷ answer [] (ids_are (1 ∷ 18446744073709551614 ∷ []))
    ∷ answer [] no_value
    ∷ answer [] (status_is Applied)
    ∷ answer [] no_value
    ∷ answer [] no_value
    ∷ refused 4
    ∷ answer [] (status_is Stale)
    ∷ answer [] (fee_intent_is None)
    ∷ answer [] no_value
    ∷ answer [] no_value
    ∷ answer [] no_value
    ∷ answer [] (attempt_is None)
    ∷ []

abbrev pub archive : List ℕ
archive = ((2 ∷ []) ++ num 46 ++ replicate 8 255 ++ (0 ∷ 1 ∷ 0 ∷ 0 ∷ 1 ∷ []) ++ replicate 8 255 ++ (2 ∷ []) ++ replicate 32 3 ++ num 8 ++ (0 ∷ 0 ∷ 4 ∷ []) ++ zeros 15 ++ (1 ∷ []) ++ replicate 7 255 ++ (254 ∷ []) ++ num 6 ++ (0 ∷ 0 ∷ []))

pub recorded : play calls start ≡ record { answers = answers; archive = archive }
unfolding play opened zero_output zero_spend zero_bundle zero_hash zero_attempt no_attempt base_variant Fips.K Fips.H0 Fips.pad Fips.schedule Fips.round Fips.rounds Fips.plus Fips.hashed
recorded = refl
