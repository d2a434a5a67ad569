-- Made by `oracle theorems --out crates`.
-- List 11467 of the seed, with what the Rust answered.
use Rattle.base_sha256.specs.Fips
use Rattle.std.specs.Prelude.{true, false, List, [], ◌∷◌, ◌++◌, ◌≡◌, refl, ℕ, replicate}
use Rattle.book.specs.Model.{Book}
use Rattle.book.specs.Zero.{zeros, zero_output, zero_spend, zero_bundle, zero_hash, zero_attempt, no_attempt, base_variant}
use Rattle.std.specs.Prelude.{None}
use Rattle.book.specs.declared.FeeResolution.TheVariants.{Unresolved}
use Rattle.book.specs.declared.SubmissionChainTerminality.TheVariants.{InputSpent}
use Rattle.book.specs.declared.SubmissionDeliveryGoal.TheVariants.{EnsureBroadcast}
use Rattle.book.specs.declared.DeliveryTrigger.TheVariants.{Protocol, FreshChain, Rollback}
use Rattle.book_answers.specs.declared.SubmissionAttemptStatus.TheVariants.{Applied}
use Rattle.book_answers.specs.declared.SubmissionFeeSource.TheVariants as source
use Rattle.rules.specs.Call.{Call, Value, no_value, status_is, ids_are}
use Rattle.rules.specs.Rule.{Answer, answer, refused}
use Rattle.rules.specs.Opened.{opened}
use Rattle.rules_recorded_lists.specs.Play.{play}
use Rattle.rules_recorded_lists.specs.Pieces.{num, at, by_id, no_fee, attach, delivery, attempt, held, submission, book_of}
use Rattle.rules_recorded_lists.specs.Shared.{digest8, bundle2, bundle8, bundle9}

abbrev pub start : Book
start = book_of 44 1 (
    submission 0 no_attempt (held (attempt 42 EnsureBroadcast digest8 zero_hash)) (replicate 32 5) zero_bundle base_variant Unresolved (attach (replicate 32 4) 0) zero_hash InputSpent None
    ∷ [])
    ((delivery None zero_bundle None (attach (replicate 32 4) 0) Protocol EnsureBroadcast) ∷ (delivery None bundle2 (at 18446744073709551615) no_fee FreshChain EnsureBroadcast) ∷ []) (1000 ∷ []) None []

abbrev pub calls : List Call
calls =
    Call.ReconcileChainTerminality (0 ∷ 1 ∷ 0 ∷ []) [] false (replicate 102 0)
    ∷ Call.Queue (delivery (by_id 0) bundle8 None (attach (replicate 32 4) 0) FreshChain EnsureBroadcast)
    ∷ Call.CausallyRolledBackIds (0 ∷ 1 ∷ 1 ∷ 9 ∷ []) []
    ∷ Call.RelinquishCompletedAttempt 42
    ∷ Call.ReconcileChainTerminality (0 ∷ 1 ∷ 0 ∷ 0 ∷ []) [] true (replicate 64 0)
    ∷ Call.FinalizeAttempt 43 source.Joined bundle9
    ∷ Call.ReconcileChainTerminality [] [] true (0 ∷ [])
    ∷ Call.CausallyRolledBackIds ((0 ∷ 1 ∷ 40 ∷ []) ++ replicate 40 1 ++ (0 ∷ [])) []
    ∷ Call.QueueRebroadcastEpoch (replicate 4 0) Rollback
    ∷ Call.CollectRollbackReplayIds (1 ∷ [])
    ∷ Call.CausallyRolledBackIds (0 ∷ 0 ∷ []) (0 ∷ [])
    ∷ Call.AbsentOutputsForIds (0 ∷ 1 ∷ 3 ∷ []) (0 ∷ 0 ∷ []) 1
    ∷ []

abbrev pub answers : List (Answer Value)
answers =
    refused 2
    ∷ refused 3
    ∷ answer [] (ids_are (0 ∷ []))
    ∷ answer [] (status_is Applied)
    ∷ refused 2
    ∷ refused 3
    ∷ refused 2
    ∷ refused 2
    ∷ answer [] no_value
    ∷ answer [] no_value
    ∷ refused 2
    ∷ refused 12
    ∷ []

abbrev pub archive : List ℕ
archive = ((2 ∷ []) ++ num 44 ++ num 1 ++ (1 ∷ []) ++ zeros 9 ++ (1 ∷ []) ++ num 42 ++ (0 ∷ []) ++ digest8 ++ (0 ∷ []) ++ replicate 32 5 ++ (0 ∷ 0 ∷ 0 ∷ 2 ∷ []) ++ replicate 32 4 ++ zeros 9 ++ (1 ∷ 0 ∷ 2 ∷ 0 ∷ 0 ∷ 0 ∷ 2 ∷ []) ++ replicate 32 4 ++ zeros 11 ++ (1 ∷ 1 ∷ 7 ∷ []) ++ zeros 32 ++ (1 ∷ 0 ∷ 1 ∷ []) ++ replicate 8 255 ++ (1 ∷ 1 ∷ 0 ∷ 1 ∷ []) ++ zeros 6 ++ (3 ∷ 232 ∷ 0 ∷ 0 ∷ []))

pub recorded : play calls start ≡ record { answers = answers; archive = archive }
unfolding play opened zero_output zero_spend zero_bundle zero_hash zero_attempt no_attempt base_variant Fips.K Fips.H0 Fips.pad Fips.schedule Fips.round Fips.rounds Fips.plus Fips.hashed
recorded = refl
