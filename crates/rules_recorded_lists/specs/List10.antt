-- Made by `oracle theorems --out crates`.
-- List 12059 of the seed, with what the Rust answered.
use Rattle.base_sha256.specs.Fips
use Rattle.std.specs.Prelude.{true, List, [], ◌∷◌, ◌++◌, ◌≡◌, refl, ℕ, replicate}
use Rattle.book.specs.Model.{Book}
use Rattle.book.specs.Zero.{zeros, zero_output, zero_spend, zero_bundle, zero_hash, zero_attempt, no_attempt, base_variant}
use Rattle.std.specs.Prelude.{None}
use Rattle.book.specs.declared.FeeResolution.TheVariants.{Unresolved}
use Rattle.book.specs.declared.SubmissionChainTerminality.TheVariants.{Landed}
use Rattle.book.specs.declared.SubmissionDeliveryGoal.TheVariants.{EnsureBroadcast, FeeUpgrade}
use Rattle.book.specs.declared.DeliveryTrigger.TheVariants.{Protocol, Rollback}
use Rattle.book_answers.specs.declared.SubmissionAttemptStatus.TheVariants.{Stale}
use Rattle.book_answers.specs.declared.SubmissionFeeSource.TheVariants as source
use Rattle.rules.specs.Call.{Call, Value, no_value, status_is, ids_are, flag, written}
use Rattle.rules.specs.Rule.{Answer, answer, refused}
use Rattle.rules.specs.Opened.{opened}
use Rattle.rules_recorded_lists.specs.Play.{play}
use Rattle.rules_recorded_lists.specs.Pieces.{num, height, at, by_id, attach, delivery, attempt, held, submission, book_of}
use Rattle.rules_recorded_lists.specs.Shared.{digest21, bundle10}

abbrev pub start : Book
start = book_of 18446744073709551614 18446744073709551615 (
    submission 1 no_attempt (held (attempt 18446744073709551613 FeeUpgrade (replicate 32 5) zero_hash)) digest21 zero_bundle base_variant Unresolved (attach (replicate 32 4) 0) zero_hash Landed None
    ∷ [])
    ((delivery (by_id 1) zero_bundle (at 0) (attach (replicate 32 4) 0) Protocol FeeUpgrade) ∷ []) [] None []

abbrev pub calls : List Call
calls =
    Call.ActiveIds
    ∷ Call.BeginReplay (height 18446744073709551614)
    ∷ Call.EmitRetirement 6
    ∷ Call.AbsentOutputsForIds (replicate 65 0) (0 ∷ 0 ∷ []) 11
    ∷ Call.ReconciliationInputCoins ((0 ∷ 1 ∷ 74 ∷ []) ++ replicate 74 1) 2
    ∷ Call.WriteArchive 231
    ∷ Call.CollectRollbackReplayIds (1 ∷ [])
    ∷ Call.RestoreRuntime
    ∷ Call.RetainSubmitted (replicate 65 0)
    ∷ Call.FinalizeAttempt 18446744073709551614 source.Joined bundle10
    ∷ Call.RestoreRuntime
    ∷ Call.EmitRetirement 18446744073709551615
    ∷ Call.AbandonAttempt 18446744073709551613
    ∷ Call.StopAttempt 18446744073709551610
    ∷ Call.CausallyRolledBackIds (0 ∷ 0 ∷ []) []
    ∷ Call.ActiveIds
    ∷ Call.AcknowledgeAttempt 18446744073709551613
    ∷ Call.Queue (delivery (by_id 1) zero_bundle (at 100) (attach (replicate 32 4) 0) Rollback EnsureBroadcast)
    ∷ Call.RetainSubmitted (1 ∷ [])
    ∷ Call.ReconcileChainTerminality (0 ∷ 0 ∷ []) [] true (21 ∷ [])
    ∷ Call.ReconcileChainTerminality (0 ∷ 1 ∷ 0 ∷ []) (0 ∷ []) true []
    ∷ []

abbrev pub answers : List (Answer Value)
answers =
    answer [] (ids_are [])
    ∷ answer [] (flag true)
    ∷ answer [] no_value
    ∷ refused 2
    ∷ refused 2
    ∷ answer [] (written ((2 ∷ []) ++ replicate 7 255 ++ (254 ∷ []) ++ replicate 8 255 ++ (1 ∷ []) ++ num 1 ++ (0 ∷ 1 ∷ []) ++ replicate 7 255 ++ (253 ∷ 1 ∷ []) ++ replicate 32 5 ++ (0 ∷ []) ++ digest21 ++ (0 ∷ 0 ∷ 0 ∷ 2 ∷ []) ++ replicate 32 4 ++ zeros 9 ++ (2 ∷ 0 ∷ 1 ∷ 1 ∷ []) ++ num 1 ++ (0 ∷ 1 ∷ []) ++ zeros 8 ++ (2 ∷ []) ++ replicate 32 4 ++ zeros 9 ++ (1 ∷ 1 ∷ []) ++ num 6 ++ (1 ∷ []) ++ replicate 7 255 ++ (254 ∷ 0 ∷ [])))
    ∷ answer [] no_value
    ∷ answer [] no_value
    ∷ refused 2
    ∷ refused 3
    ∷ answer [] no_value
    ∷ answer [] no_value
    ∷ answer [] (status_is Stale)
    ∷ answer [] (status_is Stale)
    ∷ answer [] (ids_are [])
    ∷ answer [] (ids_are (1 ∷ []))
    ∷ answer [] (status_is Stale)
    ∷ answer [] no_value
    ∷ answer [] (ids_are (1 ∷ []))
    ∷ answer [] no_value
    ∷ refused 2
    ∷ []

abbrev pub archive : List ℕ
archive = ((2 ∷ []) ++ replicate 7 255 ++ (254 ∷ []) ++ replicate 8 255 ++ (0 ∷ 0 ∷ 3 ∷ []) ++ num 6 ++ replicate 8 255 ++ num 1 ++ (1 ∷ []) ++ replicate 7 255 ++ (254 ∷ 0 ∷ []))

pub recorded : play calls start ≡ record { answers = answers; archive = archive }
unfolding play opened zero_output zero_spend zero_bundle zero_hash zero_attempt no_attempt base_variant Fips.K Fips.H0 Fips.pad Fips.schedule Fips.round Fips.rounds Fips.plus Fips.hashed
recorded = refl
