-- Made by `oracle theorems --out crates`.
-- List 1302 of the seed, with what the Rust answered.
use Rattle.base_sha256.specs.Fips
use Rattle.std.specs.Prelude.{false, List, [], ◌∷◌, ◌++◌, ◌≡◌, refl, ℕ, replicate}
use Rattle.std.specs.Prelude.{None, Some}
use Rattle.book.specs.Model.{Book}
use Rattle.book.specs.Zero.{zeros, zero_output, zero_spend, zero_bundle, zero_hash, zero_attempt, no_attempt, base_variant}
use Rattle.book.specs.declared.FeeResolution.TheVariants.{Unresolved, NotRequested}
use Rattle.book.specs.declared.SubmissionChainTerminality.TheVariants.{Active, InputSpent}
use Rattle.book.specs.declared.SubmissionDeliveryGoal.TheVariants.{EnsureBroadcast, FeeUpgrade}
use Rattle.book.specs.declared.DeliveryTrigger.TheVariants.{Protocol, FreshChain, Rollback}
use Rattle.book_answers.specs.declared.SubmissionAttemptRelationship.TheVariants.{Initial}
use Rattle.book_answers.specs.declared.SubmissionAttemptStatus.TheVariants.{Applied, Stale}
use Rattle.rules.specs.Call.{Call, Value, no_value, failures, fee_intent_is, status_is, ids_are, height_is, written}
use Rattle.rules.specs.Rule.{Answer, answer, refused}
use Rattle.rules.specs.Opened.{opened}
use Rattle.rules_recorded_lists.specs.Play.{play}
use Rattle.rules_recorded_lists.specs.Pieces.{num, height, at, by_id, already_paid, attach, delivery, hash, attempt, held, submission, book_of, drained}
use Rattle.rules_recorded_lists.specs.Shared.{digest5, digest6, digest7, digest8}

abbrev pub start : Book
start = book_of 41 4 (
    submission 2 no_attempt (held (attempt 40 FeeUpgrade (replicate 32 5) (hash (replicate 32 5)))) digest5 zero_bundle base_variant Unresolved (attach (replicate 32 255) 18446744073709551615) zero_hash Active (at 0)
    ∷ submission 3 (held (attempt 39 EnsureBroadcast digest6 (hash digest6))) no_attempt digest5 zero_bundle base_variant NotRequested (attach (replicate 32 255) 18446744073709551615) zero_hash InputSpent (at 0)
    ∷ [])
    ((delivery (by_id 2) zero_bundle (at 50) (attach (replicate 32 255) 18446744073709551615) FreshChain FeeUpgrade) ∷ []) (2 ∷ 3 ∷ []) None []

abbrev pub calls : List Call
calls =
    Call.ReconcileChainTerminality (0 ∷ 0 ∷ []) (replicate 32 9) false []
    ∷ Call.ReplayRollbackHeight
    ∷ Call.FinishReplayIfAdvanced (height 0)
    ∷ Call.QueueRebroadcastEpoch [] FreshChain
    ∷ Call.AcknowledgeAttempt 39
    ∷ Call.Queue (delivery None zero_bundle (at 100) (attach (replicate 32 4) 0) Protocol EnsureBroadcast)
    ∷ Call.AbsentOutputsForIds (3 ∷ 2 ∷ 2 ∷ 18446744073709551615 ∷ []) (0 ∷ 2 ∷ 1 ∷ 9 ∷ 0 ∷ []) 2
    ∷ Call.FeeIntentForAttempt 39
    ∷ Call.AbsentOutputsForIds (2 ∷ 2 ∷ []) (0 ∷ 0 ∷ []) 8
    ∷ Call.QueueFeeReadiness
    ∷ Call.RetainSubmitted (4 ∷ 3 ∷ 2 ∷ [])
    ∷ Call.DrainRetirements
    ∷ Call.Drain
    ∷ Call.RelinquishCompletedAttempt 41
    ∷ Call.DrainRetirements
    ∷ Call.StopAttempt 41
    ∷ Call.QueueRebroadcastEpoch (4 ∷ 4 ∷ 4 ∷ []) Protocol
    ∷ Call.QueueFeeReadiness
    ∷ Call.AcknowledgeAttempt 40
    ∷ Call.QueueRebroadcastEpoch (18446744073709551615 ∷ []) Rollback
    ∷ Call.FeeIntentForAttempt 18446744073709551615
    ∷ []

abbrev pub answers : List (Answer Value)
answers =
    answer [] no_value
    ∷ answer [] (height_is None)
    ∷ answer [] no_value
    ∷ answer [] no_value
    ∷ refused 8
    ∷ answer [] no_value
    ∷ answer [] (written (0 ∷ 0 ∷ []))
    ∷ answer [] (fee_intent_is (Some already_paid))
    ∷ answer [] (written (0 ∷ 0 ∷ []))
    ∷ answer [] no_value
    ∷ answer [] (ids_are (2 ∷ 3 ∷ []))
    ∷ answer [] (ids_are (2 ∷ 3 ∷ []))
    ∷ answer (drained 4 41 None Initial zero_bundle (at 100) (attach (replicate 32 4) 0) ∷ []) (failures [])
    ∷ answer [] (status_is Stale)
    ∷ answer [] (ids_are [])
    ∷ answer [] (status_is Applied)
    ∷ answer [] no_value
    ∷ answer [] no_value
    ∷ answer [] (status_is Stale)
    ∷ answer [] no_value
    ∷ refused 4
    ∷ []

abbrev pub archive : List ℕ
archive = ((2 ∷ []) ++ num 42 ++ num 5 ++ (1 ∷ []) ++ num 4 ++ (0 ∷ 1 ∷ []) ++ num 41 ++ (0 ∷ []) ++ digest8 ++ (0 ∷ []) ++ digest7 ++ (0 ∷ 0 ∷ 0 ∷ 2 ∷ []) ++ replicate 32 4 ++ zeros 10 ++ (1 ∷ []) ++ num 100 ++ (1 ∷ 1 ∷ []) ++ num 4 ++ (0 ∷ 1 ∷ []) ++ num 100 ++ (2 ∷ []) ++ replicate 32 4 ++ zeros 13)

pub recorded : play calls start ≡ record { answers = answers; archive = archive }
unfolding play opened zero_output zero_spend zero_bundle zero_hash zero_attempt no_attempt base_variant Fips.K Fips.H0 Fips.pad Fips.schedule Fips.round Fips.rounds Fips.plus Fips.hashed
recorded = refl
