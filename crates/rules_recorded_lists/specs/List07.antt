-- Made by `oracle theorems --out crates`.
-- List 9995 of the seed, with what the Rust answered.
use Rattle.base_sha256.specs.Fips
use Rattle.std.specs.Prelude.{true, false, List, [], ◌∷◌, ◌++◌, ◌≡◌, refl, ℕ, replicate}
use Rattle.book.specs.Model.{Book}
use Rattle.book.specs.Zero.{zeros, zero_output, zero_spend, zero_bundle, zero_hash, zero_attempt, no_attempt, base_variant}
use Rattle.std.specs.Prelude.{None}
use Rattle.book.specs.declared.FeeResolution.TheVariants.{Unresolved, NotRequested}
use Rattle.book.specs.declared.SubmissionChainTerminality.TheVariants.{Active, InputSpent}
use Rattle.book.specs.declared.SubmissionDeliveryGoal.TheVariants.{EnsureBroadcast, FeeUpgrade}
use Rattle.book.specs.declared.DeliveryTrigger.TheVariants.{Protocol, Rollback, ProviderReadiness}
use Rattle.book_answers.specs.declared.SubmissionAttemptStatus.TheVariants.{Applied}
use Rattle.rules.specs.Call.{Call, Value, no_value, status_is, ids_are, written}
use Rattle.rules.specs.Rule.{Answer, answer, refused}
use Rattle.rules.specs.Opened.{opened}
use Rattle.rules_recorded_lists.specs.Play.{play}
use Rattle.rules_recorded_lists.specs.Pieces.{num, height, at, by_id, no_fee, attach, delivery, hash, attempt, held, submission, book_of}
use Rattle.rules_recorded_lists.specs.Shared.{digest8, digest21, digest22, digest23, bundle5, bundle6, bundle7}

abbrev pub start : Book
start = book_of 41 5 (
    submission 2 no_attempt (held (attempt 40 FeeUpgrade digest8 (hash digest8))) digest21 zero_bundle base_variant Unresolved (attach (replicate 32 4) 0) (hash digest8) Active None
    ∷ submission 3 (held (attempt 38 FeeUpgrade digest8 (hash digest8))) (held (attempt 39 EnsureBroadcast digest8 (hash digest8))) digest22 zero_bundle base_variant NotRequested no_fee (hash digest8) InputSpent (at 100)
    ∷ submission 4 (held (attempt 37 EnsureBroadcast digest8 (hash (replicate 32 5)))) no_attempt digest23 zero_bundle base_variant Unresolved (attach (replicate 32 3) 7) zero_hash InputSpent (at 50)
    ∷ [])
    ((delivery None bundle5 (at 100) (attach (replicate 32 255) 18446744073709551615) Rollback FeeUpgrade) ∷ (delivery (by_id 3) zero_bundle (at 100) no_fee Protocol EnsureBroadcast) ∷ []) [] (at 101) []

abbrev pub calls : List Call
calls =
    Call.ReconciliationInputCoins ((3 ∷ 33 ∷ 40 ∷ []) ++ replicate 40 1) 4
    ∷ Call.FinishReplayIfAdvanced (height 102)
    ∷ Call.Queue (delivery None bundle6 (at 100) (attach (replicate 32 255) 18446744073709551615) Rollback EnsureBroadcast)
    ∷ Call.CausallyRolledBackIds (0 ∷ 1 ∷ 0 ∷ []) (replicate 32 9)
    ∷ Call.ReconcileChainTerminality (0 ∷ 0 ∷ []) [] false (5 ∷ 4 ∷ 5 ∷ 5 ∷ [])
    ∷ Call.AbsentOutputsForIds (4 ∷ 7 ∷ 3 ∷ 20 ∷ []) (0 ∷ 1 ∷ 1 ∷ 9 ∷ []) 2
    ∷ Call.WriteArchive 0
    ∷ Call.AbsentOutputsForIds (5 ∷ 3 ∷ 4 ∷ 3 ∷ []) (0 ∷ 0 ∷ []) 2
    ∷ Call.ActiveIds
    ∷ Call.AbsentOutputsForIds (replicate 65 0) (0 ∷ 0 ∷ []) 11
    ∷ Call.CausallyRolledBackIds (0 ∷ 0 ∷ []) []
    ∷ Call.Queue (delivery None bundle7 None no_fee ProviderReadiness EnsureBroadcast)
    ∷ Call.AbandonAttempt 38
    ∷ Call.RestoreRuntime
    ∷ Call.FinishReplayIfAdvanced (height 18446744073709551615)
    ∷ Call.ReconcileChainTerminality (0 ∷ 0 ∷ []) [] true (4 ∷ 2 ∷ [])
    ∷ Call.QueueRebroadcastEpoch (4 ∷ 4 ∷ 2 ∷ 5 ∷ []) Protocol
    ∷ Call.AbsentOutputsForIds [] (0 ∷ 0 ∷ []) 8
    ∷ Call.RelinquishCompletedAttempt 37
    ∷ Call.ReconcileChainTerminality (0 ∷ 0 ∷ []) [] false (replicate 65 0)
    ∷ Call.Queue (delivery None zero_bundle (at 18446744073709551615) (attach (replicate 32 3) 7) Protocol EnsureBroadcast)
    ∷ []

abbrev pub answers : List (Answer Value)
answers =
    refused 2
    ∷ answer [] no_value
    ∷ refused 3
    ∷ answer [] (ids_are (3 ∷ 4 ∷ []))
    ∷ answer [] no_value
    ∷ answer [] (written (0 ∷ 0 ∷ []))
    ∷ refused 12
    ∷ answer [] (written (0 ∷ 0 ∷ []))
    ∷ answer [] (ids_are (2 ∷ 4 ∷ []))
    ∷ refused 2
    ∷ answer [] (ids_are (3 ∷ []))
    ∷ refused 3
    ∷ answer [] (status_is Applied)
    ∷ answer [] no_value
    ∷ answer [] no_value
    ∷ answer [] no_value
    ∷ answer [] no_value
    ∷ answer [] (written (0 ∷ 0 ∷ []))
    ∷ answer [] (status_is Applied)
    ∷ refused 2
    ∷ answer [] no_value
    ∷ []

abbrev pub archive : List ℕ
archive = ((2 ∷ []) ++ num 41 ++ num 5 ++ (2 ∷ []) ++ num 2 ++ (0 ∷ 1 ∷ []) ++ num 40 ++ (1 ∷ []) ++ digest8 ++ (1 ∷ []) ++ digest8 ++ digest21 ++ (0 ∷ 0 ∷ 0 ∷ 2 ∷ []) ++ replicate 32 4 ++ zeros 8 ++ (1 ∷ []) ++ digest8 ++ zeros 9 ++ (4 ∷ 0 ∷ 1 ∷ []) ++ num 37 ++ (0 ∷ []) ++ digest8 ++ (1 ∷ []) ++ replicate 32 5 ++ digest23 ++ (0 ∷ 0 ∷ 0 ∷ 2 ∷ []) ++ replicate 32 3 ++ num 7 ++ (0 ∷ 0 ∷ 1 ∷ []) ++ num 50 ++ (4 ∷ 0 ∷ 1 ∷ 1 ∷ 8 ∷ []) ++ zeros 32 ++ (1 ∷ 2 ∷ []) ++ replicate 32 1 ++ zeros 8 ++ replicate 32 1 ++ zeros 8 ++ (1 ∷ []) ++ num 100 ++ (2 ∷ []) ++ replicate 40 255 ++ (2 ∷ 1 ∷ 1 ∷ []) ++ num 4 ++ (0 ∷ 1 ∷ []) ++ num 50 ++ (2 ∷ []) ++ replicate 32 3 ++ num 7 ++ (0 ∷ 0 ∷ 1 ∷ []) ++ num 2 ++ (0 ∷ 0 ∷ 2 ∷ []) ++ replicate 32 4 ++ zeros 9 ++ (1 ∷ 0 ∷ 0 ∷ 1 ∷ []) ++ replicate 8 255 ++ (2 ∷ []) ++ replicate 32 3 ++ num 7 ++ (0 ∷ 0 ∷ 1 ∷ []) ++ num 3 ++ (0 ∷ 0 ∷ []))

pub recorded : play calls start ≡ record { answers = answers; archive = archive }
unfolding play opened zero_output zero_spend zero_bundle zero_hash zero_attempt no_attempt base_variant Fips.K Fips.H0 Fips.pad Fips.schedule Fips.round Fips.rounds Fips.plus Fips.hashed
recorded = refl
