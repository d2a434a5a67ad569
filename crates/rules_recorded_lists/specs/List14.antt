-- Made by `oracle theorems --out crates`.
-- List 14035 of the seed, with what the Rust answered.
use Rattle.base_sha256.specs.Fips
use Rattle.std.specs.Prelude.{true, false, List, [], ◌∷◌, ◌++◌, ◌≡◌, refl, ℕ, replicate}
use Rattle.std.specs.Prelude.{None}
use Rattle.book.specs.Model.{Book}
use Rattle.book.specs.Zero.{zeros, zero_output, zero_spend, zero_bundle, zero_hash, zero_attempt, no_attempt, base_variant}
use Rattle.book.specs.declared.FeeIntentKind.TheVariants.{AlreadyPaid}
use Rattle.book.specs.declared.FeeResolution.TheVariants.{Unresolved}
use Rattle.book.specs.declared.SubmissionChainTerminality.TheVariants.{Active}
use Rattle.book.specs.declared.SubmissionDeliveryGoal.TheVariants.{EnsureBroadcast, FeeUpgrade}
use Rattle.book.specs.declared.DeliveryTrigger.TheVariants.{FreshChain, Rollback}
use Rattle.book_answers.specs.declared.SubmissionAttemptStatus.TheVariants.{Applied, Stale}
use Rattle.rules.specs.Call.{Call, Value, no_value, status_is, ids_are, flag, attempt_is}
use Rattle.rules.specs.Rule.{Answer, answer, refused}
use Rattle.rules.specs.Opened.{opened}
use Rattle.rules_recorded_lists.specs.Play.{play}
use Rattle.rules_recorded_lists.specs.Pieces.{num, height, at, by_id, fee_cells, attach, delivery, hash, attempt, held, submission, book_of}
use Rattle.rules_recorded_lists.specs.Shared.{digest7, digest8, bundle2}

abbrev pub start : Book
start = book_of 42 18446744073709551516 (
    submission 18446744073709551515 no_attempt (held (attempt 41 FeeUpgrade digest8 zero_hash)) digest7 zero_bundle base_variant Unresolved (attach (replicate 32 4) 0) (hash digest8) Active (at 100)
    ∷ [])
    ((delivery (by_id 18446744073709551515) zero_bundle (at 100) (attach (replicate 32 4) 0) FreshChain FeeUpgrade) ∷ []) (1000 ∷ []) None []

abbrev pub calls : List Call
calls =
    Call.Attempt 43
    ∷ Call.Queue (delivery (by_id 18446744073709551615) bundle2 None (fee_cells AlreadyPaid (replicate 28 255 ++ (1 ∷ 255 ∷ 255 ∷ 255 ∷ [])) 18446744073709551615) Rollback FeeUpgrade)
    ∷ Call.AbandonAttempt 36
    ∷ Call.CausallyRolledBackIds ((0 ∷ 1 ∷ 74 ∷ []) ++ replicate 74 1) []
    ∷ Call.BeginReplay (height 0)
    ∷ Call.CollectRollbackReplayIds (replicate 65 0)
    ∷ Call.ReconciliationInputCoins ((0 ∷ 1 ∷ 74 ∷ []) ++ replicate 74 1) 1
    ∷ Call.AbandonAttempt 42
    ∷ Call.Queue (delivery None zero_bundle (at 0) (attach (replicate 32 4) 0) FreshChain EnsureBroadcast)
    ∷ Call.ReconcileChainTerminality (0 ∷ 0 ∷ []) (0 ∷ []) false (18446744073709551515 ∷ [])
    ∷ Call.RelinquishCompletedAttempt 41
    ∷ Call.CausallyRolledBackIds ((0 ∷ 1 ∷ 40 ∷ []) ++ replicate 39 1) []
    ∷ Call.AbsentOutputsForIds (10 ∷ 10 ∷ 1000 ∷ []) (0 ∷ []) 9
    ∷ Call.QueueRebroadcastEpoch (replicate 64 1000) Rollback
    ∷ Call.AcknowledgeAttempt 41
    ∷ Call.DrainRetirements
    ∷ Call.CausallyRolledBackIds (0 ∷ 0 ∷ []) []
    ∷ Call.ReconcileChainTerminality (0 ∷ 2 ∷ 1 ∷ 9 ∷ []) (replicate 32 9) true (replicate 64 18446744073709551515)
    ∷ []

abbrev pub answers : List (Answer Value)
answers =
    answer [] (attempt_is None)
    ∷ refused 3
    ∷ answer [] (status_is Stale)
    ∷ refused 2
    ∷ answer [] (flag true)
    ∷ refused 2
    ∷ refused 2
    ∷ refused 4
    ∷ answer [] no_value
    ∷ refused 2
    ∷ answer [] (status_is Applied)
    ∷ refused 2
    ∷ refused 2
    ∷ answer [] no_value
    ∷ answer [] (status_is Stale)
    ∷ answer [] (ids_are (1000 ∷ []))
    ∷ answer [] (ids_are [])
    ∷ refused 2
    ∷ []

abbrev pub archive : List ℕ
archive = ((2 ∷ []) ++ num 42 ++ replicate 7 255 ++ (156 ∷ 1 ∷ []) ++ replicate 7 255 ++ (155 ∷ 0 ∷ 1 ∷ []) ++ num 41 ++ (1 ∷ []) ++ digest8 ++ (0 ∷ []) ++ digest7 ++ (0 ∷ 0 ∷ 0 ∷ 2 ∷ []) ++ replicate 32 4 ++ zeros 8 ++ (1 ∷ []) ++ digest8 ++ (0 ∷ 1 ∷ []) ++ num 100 ++ (2 ∷ 1 ∷ []) ++ replicate 7 255 ++ (155 ∷ 0 ∷ 1 ∷ []) ++ num 100 ++ (2 ∷ []) ++ replicate 32 4 ++ zeros 8 ++ (1 ∷ 1 ∷ 0 ∷ 0 ∷ 1 ∷ []) ++ zeros 8 ++ (2 ∷ []) ++ replicate 32 4 ++ zeros 8 ++ (1 ∷ 0 ∷ 0 ∷ 1 ∷ []) ++ zeros 9)

pub recorded : play calls start ≡ record { answers = answers; archive = archive }
unfolding play opened zero_output zero_spend zero_bundle zero_hash zero_attempt no_attempt base_variant Fips.K Fips.H0 Fips.pad Fips.schedule Fips.round Fips.rounds Fips.plus Fips.hashed
recorded = refl
