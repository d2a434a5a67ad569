-- Made by `oracle theorems --out crates`.
-- List 13723 of the seed, with what the Rust answered.
use Rattle.base_sha256.specs.Fips
use Rattle.std.specs.Prelude.{false, List, [], ◌∷◌, ◌++◌, ◌≡◌, refl, ℕ, replicate}
use Rattle.std.specs.Prelude.{None}
use Rattle.book.specs.Model.{Book}
use Rattle.book.specs.Zero.{zeros, zero_output, zero_spend, zero_bundle, zero_hash, zero_attempt, no_attempt, base_variant}
use Rattle.book.specs.declared.FeeResolution.TheVariants.{NotRequested}
use Rattle.book.specs.declared.SubmissionChainTerminality.TheVariants.{Active}
use Rattle.book.specs.declared.SubmissionDeliveryGoal.TheVariants.{EnsureBroadcast, FeeUpgrade}
use Rattle.book.specs.declared.DeliveryTrigger.TheVariants.{Rollback, ProviderReadiness}
use Rattle.book_answers.specs.declared.SubmissionAttemptStatus.TheVariants.{Stale}
use Rattle.book_answers.specs.declared.SubmissionFeeSource.TheVariants as source
use Rattle.rules.specs.Call.{Call, Value, no_value, finalized, fee_intent_is, status_is, ids_are, flag, attempt_is, written}
use Rattle.rules.specs.Rule.{Answer, answer, refused}
use Rattle.rules.specs.Opened.{opened}
use Rattle.rules_recorded_lists.specs.Play.{play}
use Rattle.rules_recorded_lists.specs.Pieces.{num, height, at, by_id, already_paid, no_fee, delivery, hash, attempt, held, submission, book_of}
use Rattle.rules_recorded_lists.specs.Shared.{digest8, digest19, bundle2, bundle14}

abbrev pub start : Book
start = book_of 42 0 (
    submission 0 no_attempt (held (attempt 41 EnsureBroadcast digest8 zero_hash)) digest19 zero_bundle base_variant NotRequested already_paid (hash digest8) Active None
    ∷ [])
    ((delivery (by_id 0) zero_bundle None already_paid Rollback EnsureBroadcast) ∷ (delivery None bundle2 (at 0) no_fee ProviderReadiness FeeUpgrade) ∷ []) (0 ∷ 1 ∷ []) (at 99) (0 ∷ [])

abbrev pub calls : List Call
calls =
    Call.BeginReplay (height 99)
    ∷ Call.AbsentOutputsForIds (replicate 65 0) (0 ∷ 0 ∷ []) 11
    ∷ Call.FinalizeAttempt 37 source.NotRequested zero_bundle
    ∷ Call.FeeIntentForAttempt 38
    ∷ Call.StopAttempt 41
    ∷ Call.Attempt 36
    ∷ Call.AbsentOutputsForIds (replicate 65 0) (0 ∷ 0 ∷ []) 2
    ∷ Call.Queue (delivery (by_id 27) bundle2 (at 0) no_fee ProviderReadiness FeeUpgrade)
    ∷ Call.AbandonAttempt 41
    ∷ Call.ReconciliationInputCoins ((0 ∷ 1 ∷ 40 ∷ []) ++ replicate 40 1 ++ (0 ∷ [])) 2
    ∷ Call.FinalizeAttempt 41 source.Joined bundle14
    ∷ Call.ReconciliationInputCoins ((0 ∷ 1 ∷ 40 ∷ []) ++ replicate 39 1) 0
    ∷ Call.CollectRollbackReplayIds (replicate 65 0)
    ∷ Call.ReconcileChainTerminality (0 ∷ 0 ∷ []) [] false (0 ∷ 18446744073709551615 ∷ 0 ∷ [])
    ∷ Call.AbsentOutputsForIds (0 ∷ 0 ∷ 20 ∷ 0 ∷ []) ((3 ∷ 33 ∷ 40 ∷ []) ++ replicate 40 1) 2
    ∷ Call.CausallyRolledBackIds ((3 ∷ 33 ∷ 40 ∷ []) ++ replicate 40 1) []
    ∷ Call.DrainRetirements
    ∷ Call.WriteArchive 292
    ∷ Call.AbsentOutputsForIds (replicate 4 0) ((0 ∷ 1 ∷ 40 ∷ []) ++ replicate 40 1 ++ (0 ∷ [])) 2
    ∷ Call.FinishReplayIfAdvanced (height 100)
    ∷ []

abbrev pub answers : List (Answer Value)
answers =
    answer [] (flag false)
    ∷ refused 2
    ∷ answer [] (finalized None)
    ∷ answer [] (fee_intent_is None)
    ∷ answer [] (status_is Stale)
    ∷ answer [] (attempt_is None)
    ∷ refused 2
    ∷ answer [] no_value
    ∷ answer [] (status_is Stale)
    ∷ refused 2
    ∷ refused 3
    ∷ refused 2
    ∷ refused 2
    ∷ answer [] no_value
    ∷ refused 2
    ∷ refused 2
    ∷ answer [] (ids_are (0 ∷ 1 ∷ []))
    ∷ answer [] (written ((2 ∷ []) ++ num 42 ++ zeros 8 ++ (1 ∷ []) ++ zeros 9 ++ (1 ∷ []) ++ num 41 ++ (0 ∷ []) ++ digest8 ++ (0 ∷ []) ++ digest19 ++ (0 ∷ 0 ∷ 1 ∷ 0 ∷ 1 ∷ []) ++ digest8 ++ (0 ∷ 0 ∷ 3 ∷ 1 ∷ []) ++ zeros 11 ++ (2 ∷ 0 ∷ 0 ∷ 1 ∷ 1 ∷ 7 ∷ []) ++ zeros 32 ++ (1 ∷ 0 ∷ 1 ∷ []) ++ zeros 8 ++ (1 ∷ 3 ∷ 1 ∷ 1 ∷ []) ++ num 27 ++ (1 ∷ 1 ∷ 7 ∷ []) ++ zeros 32 ++ (1 ∷ 0 ∷ 1 ∷ []) ++ zeros 8 ++ (1 ∷ 3 ∷ 1 ∷ 0 ∷ 1 ∷ []) ++ num 99 ++ (1 ∷ []) ++ zeros 8))
    ∷ refused 2
    ∷ answer [] no_value
    ∷ []

abbrev pub archive : List ℕ
archive = ((2 ∷ []) ++ num 42 ++ zeros 8 ++ (1 ∷ []) ++ zeros 9 ++ (1 ∷ []) ++ num 41 ++ (0 ∷ []) ++ digest8 ++ (0 ∷ []) ++ digest19 ++ (0 ∷ 0 ∷ 1 ∷ 0 ∷ 1 ∷ []) ++ digest8 ++ (0 ∷ 0 ∷ 3 ∷ 1 ∷ []) ++ zeros 11 ++ (2 ∷ 0 ∷ 0 ∷ 1 ∷ 1 ∷ 7 ∷ []) ++ zeros 32 ++ (1 ∷ 0 ∷ 1 ∷ []) ++ zeros 8 ++ (1 ∷ 3 ∷ 1 ∷ 1 ∷ []) ++ num 27 ++ (1 ∷ 1 ∷ 7 ∷ []) ++ zeros 32 ++ (1 ∷ 0 ∷ 1 ∷ []) ++ zeros 8 ++ (1 ∷ 3 ∷ 1 ∷ 0 ∷ 0 ∷ 0 ∷ []))

pub recorded : play calls start ≡ record { answers = answers; archive = archive }
unfolding play opened zero_output zero_spend zero_bundle zero_hash zero_attempt no_attempt base_variant Fips.K Fips.H0 Fips.pad Fips.schedule Fips.round Fips.rounds Fips.plus Fips.hashed
recorded = refl
