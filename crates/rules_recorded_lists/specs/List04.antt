-- Made by `oracle theorems --out crates`.
-- List 5687 of the seed, with what the Rust answered.
use Rattle.base_sha256.specs.Fips
use Rattle.std.specs.Prelude.{true, false, List, [], ◌∷◌, ◌++◌, ◌≡◌, refl, ℕ, replicate}
use Rattle.book.specs.Model.{Book}
use Rattle.book.specs.Zero.{zeros, zero_output, zero_spend, zero_bundle, zero_hash, zero_attempt, no_attempt, base_variant}
use Rattle.std.specs.Prelude.{None}
use Rattle.book.specs.declared.FeeResolution.TheVariants.{Unresolved}
use Rattle.book.specs.declared.SubmissionChainTerminality.TheVariants.{Active, InputSpent}
use Rattle.book.specs.declared.SubmissionDeliveryGoal.TheVariants.{EnsureBroadcast, FeeUpgrade}
use Rattle.book.specs.declared.DeliveryTrigger.TheVariants.{Protocol, Rollback, ProviderReadiness}
use Rattle.book_answers.specs.declared.DrainFailureCause.TheVariants.{OutputsUnreadable, IdsExhausted}
use Rattle.book_answers.specs.declared.SubmissionAttemptStatus.TheVariants.{Stale}
use Rattle.book_answers.specs.declared.SubmissionFeeSource.TheVariants as source
use Rattle.rules.specs.Call.{Call, Value, no_value, failures, status_is, ids_are, flag, height_is}
use Rattle.rules.specs.Rule.{Answer, answer, refused}
use Rattle.rules.specs.Opened.{opened}
use Rattle.rules_recorded_lists.specs.Play.{play}
use Rattle.rules_recorded_lists.specs.Pieces.{num, height, at, by_id, already_paid, attach, delivery, hash, attempt, held, submission, book_of, failed}
use Rattle.rules_recorded_lists.specs.Shared.{digest1, digest6, digest13, digest14, digest15, digest16, bundle1, bundle2, bundle3}

abbrev pub start : Book
start = book_of 43 18446744073709551615 (
    submission 1 (held (attempt 41 FeeUpgrade digest6 (hash digest6))) no_attempt digest13 bundle3 base_variant Unresolved (attach (replicate 32 3) 8) (hash digest6) Active (at 100)
    ∷ submission 0 (held (attempt 42 FeeUpgrade digest15 zero_hash)) no_attempt digest14 bundle2 base_variant Unresolved (attach (replicate 32 3) 8) zero_hash InputSpent None
    ∷ [])
    ((delivery None bundle1 (at 18446744073709551615) already_paid Protocol EnsureBroadcast) ∷ (delivery None bundle2 (at 50) (attach (replicate 32 3) 8) ProviderReadiness EnsureBroadcast) ∷ []) [] (at 101) (1 ∷ [])

abbrev pub calls : List Call
calls =
    Call.ReconcileChainTerminality (0 ∷ 0 ∷ []) digest1 false (6 ∷ [])
    ∷ Call.Queue (delivery (by_id 1) bundle3 (at 100) (attach (replicate 32 3) 8) Protocol EnsureBroadcast)
    ∷ Call.FinalizeAttempt 18446744073709551615 source.JoinFailed zero_bundle
    ∷ Call.QueueRetainedDelivery 1 ProviderReadiness FeeUpgrade
    ∷ Call.FinalizeAttempt 18446744073709551615 source.NotRequested zero_bundle
    ∷ Call.RetainSubmitted (0 ∷ 1 ∷ 18446744073709551615 ∷ [])
    ∷ Call.QueueFeeReadiness
    ∷ Call.ReplayRollbackHeight
    ∷ Call.Drain
    ∷ Call.AcknowledgeAttempt 42
    ∷ Call.ActiveIds
    ∷ Call.Queue (delivery (by_id 28) bundle2 (at 50) (attach (replicate 32 4) 0) Rollback FeeUpgrade)
    ∷ Call.ClearLocalArtifacts
    ∷ Call.Queue (delivery None bundle3 None (attach (replicate 32 255) 18446744073709551615) Protocol EnsureBroadcast)
    ∷ Call.BeginReplay (height 100)
    ∷ Call.Queue (delivery None bundle3 None (attach (replicate 32 255) 18446744073709551615) Protocol EnsureBroadcast)
    ∷ Call.FinishReplayIfAdvanced (height 18446744073709551615)
    ∷ []

abbrev pub answers : List (Answer Value)
answers =
    answer [] no_value
    ∷ answer [] no_value
    ∷ refused 4
    ∷ answer [] no_value
    ∷ refused 4
    ∷ answer [] (ids_are (0 ∷ 1 ∷ []))
    ∷ answer [] no_value
    ∷ answer [] (height_is (at 101))
    ∷ answer [] (failures (failed 0 OutputsUnreadable 18446744073709551615 digest16 ∷ failed 1 IdsExhausted 18446744073709551615 digest14 ∷ []))
    ∷ answer [] (status_is Stale)
    ∷ answer [] (ids_are [])
    ∷ answer [] no_value
    ∷ answer [] no_value
    ∷ answer [] no_value
    ∷ answer [] (flag true)
    ∷ answer [] no_value
    ∷ answer [] no_value
    ∷ []

abbrev pub archive : List ℕ
archive = ((2 ∷ []) ++ num 43 ++ replicate 8 255 ++ (0 ∷ 2 ∷ 0 ∷ 1 ∷ 1 ∷ 7 ∷ []) ++ replicate 66 1 ++ num 128 ++ (0 ∷ 2 ∷ []) ++ replicate 40 255 ++ (0 ∷ 0 ∷ 0 ∷ 1 ∷ 1 ∷ 7 ∷ []) ++ replicate 66 1 ++ num 128 ++ (0 ∷ 2 ∷ []) ++ replicate 40 255 ++ (0 ∷ 0 ∷ 2 ∷ []) ++ num 1 ++ zeros 10)

pub recorded : play calls start ≡ record { answers = answers; archive = archive }
unfolding play opened zero_output zero_spend zero_bundle zero_hash zero_attempt no_attempt base_variant Fips.K Fips.H0 Fips.pad Fips.schedule Fips.round Fips.rounds Fips.plus Fips.hashed
recorded = refl
