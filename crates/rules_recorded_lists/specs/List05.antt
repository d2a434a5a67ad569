-- Made by `oracle theorems --out crates`.
-- List 6991 of the seed, with what the Rust answered.
use Rattle.base_sha256.specs.Fips
use Rattle.std.specs.Prelude.{List, [], ◌∷◌, ◌++◌, ◌≡◌, refl, ℕ, replicate}
use Rattle.std.specs.Prelude.{None, Some}
use Rattle.book.specs.Model.{Book}
use Rattle.book.specs.Zero.{zeros, zero_output, zero_spend, zero_bundle, zero_hash, zero_attempt, no_attempt, base_variant}
use Rattle.book.specs.declared.FeeResolution.TheVariants.{NotRequested}
use Rattle.book.specs.declared.SubmissionChainTerminality.TheVariants.{Active}
use Rattle.book.specs.declared.SubmissionDeliveryGoal.TheVariants.{EnsureBroadcast, FeeUpgrade}
use Rattle.book.specs.declared.DeliveryTrigger.TheVariants.{Protocol, Rollback, ProviderReadiness}
use Rattle.book_answers.specs.declared.SubmissionAttemptRelationship.TheVariants.{Initial, Exact}
use Rattle.book_answers.specs.declared.SubmissionAttemptStatus.TheVariants.{Applied, Stale}
use Rattle.book_answers.specs.declared.SubmissionFeeSource.TheVariants as source
use Rattle.rules.specs.Call.{Call, Value, no_value, failures, fee_intent_is, status_is, ids_are, attempt_is}
use Rattle.rules.specs.Rule.{Answer, answer, refused}
use Rattle.rules.specs.Opened.{opened}
use Rattle.rules_recorded_lists.specs.Play.{play}
use Rattle.rules_recorded_lists.specs.Pieces.{num, at, by_id, already_paid, no_fee, attach, delivery, hash, attempt, held, fee_bearing, submission, book_of, drained}
use Rattle.rules_recorded_lists.specs.Shared.{digest8, digest17, digest18, digest19, digest20, bundle4}

abbrev pub start : Book
start = book_of 44 2 (
    submission 0 no_attempt (held (attempt 43 EnsureBroadcast (replicate 32 5) (hash digest18))) digest17 bundle4 base_variant NotRequested no_fee (hash digest18) Active (at 0)
    ∷ submission 1 (held (attempt 41 EnsureBroadcast digest18 zero_hash)) (held (attempt 42 EnsureBroadcast digest18 (hash digest8))) digest19 zero_bundle (fee_bearing bundle4 18446744073709551615) NotRequested already_paid (hash digest18) Active (at 100)
    ∷ [])
    ((delivery None zero_bundle None no_fee Rollback EnsureBroadcast) ∷ []) [] (at 99) []

abbrev pub calls : List Call
calls =
    Call.ActiveIds
    ∷ Call.FinalizeAttempt 41 source.NotRequested zero_bundle
    ∷ Call.FeeIntentForAttempt 41
    ∷ Call.ActiveIds
    ∷ Call.AbandonAttempt 41
    ∷ Call.QueueRetainedDelivery 0 Protocol FeeUpgrade
    ∷ Call.AbandonAttempt 0
    ∷ Call.CollectRollbackReplayIds (12 ∷ 0 ∷ [])
    ∷ Call.Queue (delivery (by_id 0) bundle4 (at 0) no_fee Protocol EnsureBroadcast)
    ∷ Call.Attempt 43
    ∷ Call.QueueFeeReadiness
    ∷ Call.Drain
    ∷ Call.Queue (delivery None bundle4 (at 18446744073709551615) (attach (replicate 32 3) 7) ProviderReadiness EnsureBroadcast)
    ∷ Call.QueueFeeReadiness
    ∷ []

abbrev pub answers : List (Answer Value)
answers =
    answer [] (ids_are (0 ∷ 1 ∷ []))
    ∷ refused 7
    ∷ answer [] (fee_intent_is (Some already_paid))
    ∷ answer [] (ids_are (0 ∷ 1 ∷ []))
    ∷ answer [] (status_is Applied)
    ∷ answer [] no_value
    ∷ answer [] (status_is Stale)
    ∷ answer [] no_value
    ∷ answer [] no_value
    ∷ answer [] (attempt_is None)
    ∷ answer [] no_value
    ∷ answer (drained 2 44 None Initial zero_bundle None already_paid ∷ drained 0 45 (Some 43) Exact bundle4 (at 0) already_paid ∷ []) (failures [])
    ∷ answer [] no_value
    ∷ answer [] no_value
    ∷ []

abbrev pub archive : List ℕ
archive = ((2 ∷ []) ++ num 46 ++ num 3 ++ (2 ∷ []) ++ zeros 8 ++ (1 ∷ []) ++ num 45 ++ (0 ∷ []) ++ digest18 ++ (0 ∷ 0 ∷ []) ++ digest17 ++ (1 ∷ []) ++ zeros 33 ++ (1 ∷ 0 ∷ 0 ∷ 1 ∷ 1 ∷ 0 ∷ 0 ∷ 1 ∷ []) ++ zeros 15 ++ (2 ∷ 1 ∷ []) ++ num 44 ++ (0 ∷ []) ++ digest8 ++ (0 ∷ 0 ∷ []) ++ digest20 ++ (0 ∷ 0 ∷ 1 ∷ 1 ∷ 0 ∷ 0 ∷ 0 ∷ 1 ∷ 0 ∷ 1 ∷ []) ++ zeros 33 ++ (1 ∷ 0 ∷ 1 ∷ []) ++ replicate 8 255 ++ (2 ∷ []) ++ replicate 32 3 ++ num 7 ++ (3 ∷ 0 ∷ 1 ∷ []) ++ num 1 ++ (1 ∷ []) ++ num 99 ++ (1 ∷ []) ++ zeros 8)

pub recorded : play calls start ≡ record { answers = answers; archive = archive }
unfolding play opened zero_output zero_spend zero_bundle zero_hash zero_attempt no_attempt base_variant Fips.K Fips.H0 Fips.pad Fips.schedule Fips.round Fips.rounds Fips.plus Fips.hashed
recorded = refl
