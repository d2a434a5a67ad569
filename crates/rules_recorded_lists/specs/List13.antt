-- Made by `oracle theorems --out crates`.
-- List 13882 of the seed, with what the Rust answered.
use Rattle.base_sha256.specs.Fips
use Rattle.std.specs.Prelude.{true, false, List, [], ◌∷◌, ◌++◌, ◌≡◌, refl, ℕ, replicate}
use Rattle.book.specs.Model.{Book}
use Rattle.book.specs.Zero.{zeros, zero_output, zero_spend, zero_bundle, zero_hash, zero_attempt, no_attempt, base_variant}
use Rattle.std.specs.Prelude.{None}
use Rattle.book.specs.declared.FeeResolution.TheVariants.{Unresolved, Attached}
use Rattle.book.specs.declared.SubmissionChainTerminality.TheVariants.{Active, Landed}
use Rattle.book.specs.declared.SubmissionDeliveryGoal.TheVariants.{EnsureBroadcast, FeeUpgrade}
use Rattle.book.specs.declared.DeliveryTrigger.TheVariants.{Protocol, Rollback}
use Rattle.book_answers.specs.declared.SubmissionAttemptStatus.TheVariants.{Stale}
use Rattle.rules.specs.Call.{Call, Value, no_value, status_is, ids_are, flag, height_is, written}
use Rattle.rules.specs.Rule.{Answer, answer, refused}
use Rattle.rules.specs.Opened.{opened}
use Rattle.rules_recorded_lists.specs.Play.{play}
use Rattle.rules_recorded_lists.specs.Pieces.{num, height, at, by_id, no_fee, attach, delivery, hash, attempt, held, fee_bearing, submission, book_of}
use Rattle.rules_recorded_lists.specs.Shared.{digest4, digest7, digest25, digest28, bundle1, bundle5}

abbrev pub start : Book
start = book_of 44 3 (
    submission 1 (held (attempt 43 EnsureBroadcast (replicate 32 5) (hash digest28))) no_attempt (replicate 32 5) bundle5 base_variant Unresolved (attach (replicate 32 3) 7) zero_hash Active (at 0)
    ∷ submission 2 no_attempt (held (attempt 42 FeeUpgrade digest25 zero_hash)) digest7 zero_bundle (fee_bearing bundle1 7) Attached (attach (replicate 32 4) 0) (hash digest25) Landed (at 100)
    ∷ [])
    ((delivery (by_id 1) bundle5 (at 0) (attach (replicate 32 3) 7) Rollback EnsureBroadcast) ∷ (delivery None zero_bundle (at 2004) no_fee Protocol EnsureBroadcast) ∷ []) (1000 ∷ 1001 ∷ []) (at 0) []

abbrev pub calls : List Call
calls =
    Call.CollectRollbackReplayIds (1 ∷ 2 ∷ 1 ∷ [])
    ∷ Call.ReconcileChainTerminality (0 ∷ 0 ∷ []) [] true (18446744073709551615 ∷ 26 ∷ [])
    ∷ Call.AbsentOutputsForIds [] ((0 ∷ 2 ∷ 64 ∷ []) ++ digest4 ++ replicate 32 1 ++ (64 ∷ []) ++ digest4 ++ replicate 32 1) 3
    ∷ Call.CausallyRolledBackIds ((0 ∷ 4 ∷ 64 ∷ []) ++ digest4 ++ replicate 32 1 ++ (0 ∷ 0 ∷ 1 ∷ 9 ∷ [])) digest4
    ∷ Call.QueueFeeReadiness
    ∷ Call.WriteArchive 785
    ∷ Call.FinishReplayIfAdvanced (height 0)
    ∷ Call.ReconcileChainTerminality ((0 ∷ 4 ∷ 64 ∷ []) ++ digest4 ++ replicate 32 1 ++ (64 ∷ []) ++ digest4 ++ replicate 33 1 ++ (9 ∷ 1 ∷ 9 ∷ [])) digest4 true (18446744073709551615 ∷ [])
    ∷ Call.ReconcileChainTerminality (0 ∷ 1 ∷ 1 ∷ 8 ∷ []) [] false (2 ∷ 1 ∷ [])
    ∷ Call.BeginReplay (height 99)
    ∷ Call.AbsentOutputsForIds (25 ∷ 2 ∷ 1 ∷ 2 ∷ []) (0 ∷ 0 ∷ []) 2
    ∷ Call.ReconcileChainTerminality (0 ∷ 0 ∷ []) [] true (2 ∷ 1 ∷ 1 ∷ [])
    ∷ Call.RelinquishCompletedAttempt 45
    ∷ Call.QueueFeeReadiness
    ∷ Call.ReplayRollbackHeight
    ∷ Call.ReconciliationInputCoins (0 ∷ 0 ∷ []) 5
    ∷ Call.AcknowledgeAttempt 43
    ∷ Call.CausallyRolledBackIds (0 ∷ 1 ∷ 1 ∷ 9 ∷ []) digest4
    ∷ []

abbrev pub answers : List (Answer Value)
answers =
    answer [] no_value
    ∷ answer [] no_value
    ∷ answer [] (written (0 ∷ 0 ∷ []))
    ∷ answer [] (ids_are [])
    ∷ answer [] no_value
    ∷ refused 12
    ∷ answer [] no_value
    ∷ answer [] no_value
    ∷ answer [] no_value
    ∷ answer [] (flag true)
    ∷ answer [] (written (0 ∷ 0 ∷ []))
    ∷ answer [] no_value
    ∷ refused 4
    ∷ answer [] no_value
    ∷ answer [] (height_is (at 99))
    ∷ answer [] (written (0 ∷ 1 ∷ 1 ∷ 8 ∷ []))
    ∷ answer [] (status_is Stale)
    ∷ answer [] (ids_are [])
    ∷ []

abbrev pub archive : List ℕ
archive = ((2 ∷ []) ++ num 44 ++ num 3 ++ (2 ∷ []) ++ num 1 ++ (0 ∷ 1 ∷ []) ++ num 43 ++ (0 ∷ []) ++ replicate 32 5 ++ (1 ∷ []) ++ digest28 ++ replicate 32 5 ++ (1 ∷ 1 ∷ 8 ∷ []) ++ zeros 32 ++ (1 ∷ 2 ∷ []) ++ replicate 32 1 ++ zeros 8 ++ replicate 32 1 ++ zeros 10 ++ (2 ∷ []) ++ replicate 32 3 ++ num 7 ++ (0 ∷ 0 ∷ 1 ∷ []) ++ zeros 15 ++ (2 ∷ 0 ∷ 1 ∷ []) ++ num 42 ++ (1 ∷ []) ++ digest25 ++ (0 ∷ []) ++ digest7 ++ (0 ∷ 1 ∷ 1 ∷ 1 ∷ 7 ∷ []) ++ replicate 32 1 ++ zeros 8 ++ (7 ∷ 2 ∷ 2 ∷ []) ++ replicate 32 4 ++ zeros 10 ++ (1 ∷ []) ++ num 100 ++ (3 ∷ 0 ∷ 0 ∷ 1 ∷ []) ++ zeros 6 ++ (7 ∷ 212 ∷ 1 ∷ 0 ∷ 0 ∷ 1 ∷ []) ++ num 2 ++ (0 ∷ 1 ∷ []) ++ num 100 ++ (2 ∷ []) ++ replicate 32 4 ++ zeros 8 ++ (2 ∷ 0 ∷ 1 ∷ []) ++ num 1 ++ (1 ∷ 1 ∷ 8 ∷ []) ++ zeros 32 ++ (1 ∷ 2 ∷ []) ++ replicate 32 1 ++ zeros 8 ++ replicate 32 1 ++ zeros 8 ++ (1 ∷ []) ++ zeros 8 ++ (2 ∷ []) ++ replicate 32 3 ++ num 7 ++ (3 ∷ 0 ∷ 3 ∷ []) ++ zeros 6 ++ (3 ∷ 232 ∷ []) ++ zeros 6 ++ (3 ∷ 233 ∷ []) ++ num 1 ++ (1 ∷ []) ++ num 99 ++ (0 ∷ []))

pub recorded : play calls start ≡ record { answers = answers; archive = archive }
unfolding play opened zero_output zero_spend zero_bundle zero_hash zero_attempt no_attempt base_variant Fips.K Fips.H0 Fips.pad Fips.schedule Fips.round Fips.rounds Fips.plus Fips.hashed
recorded = refl
