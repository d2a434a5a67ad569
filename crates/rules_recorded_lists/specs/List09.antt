-- Made by `oracle theorems --out crates`.
-- List 11766 of the seed, with what the Rust answered.
use Rattle.base_sha256.specs.Fips
use Rattle.std.specs.Prelude.{List, [], ◌∷◌, ◌++◌, ◌≡◌, refl, ℕ, replicate}
use Rattle.std.specs.Prelude.{None, Some}
use Rattle.book.specs.Model.{Book}
use Rattle.book.specs.Zero.{zeros, zero_output, zero_spend, zero_bundle, zero_hash, zero_attempt, no_attempt, base_variant}
use Rattle.book.specs.declared.FeeResolution.TheVariants.{Attached}
use Rattle.book.specs.declared.SubmissionChainTerminality.TheVariants.{InputSpent}
use Rattle.book.specs.declared.SubmissionDeliveryGoal.TheVariants.{EnsureBroadcast, FeeUpgrade}
use Rattle.book.specs.declared.DeliveryTrigger.TheVariants.{Protocol, FreshChain}
use Rattle.book_answers.specs.declared.DrainFailureCause.TheVariants.{IntentDiffers}
use Rattle.book_answers.specs.declared.SubmissionAttemptRelationship.TheVariants.{Other}
use Rattle.book_answers.specs.declared.SubmissionAttemptStatus.TheVariants.{Stale}
use Rattle.book_answers.specs.declared.SubmissionFeeSource.TheVariants as source
use Rattle.rules.specs.Call.{Call, Value, no_value, failures, finalized, status_is, ids_are, height_is}
use Rattle.rules.specs.Rule.{Answer, answer}
use Rattle.rules.specs.Opened.{opened}
use Rattle.rules_recorded_lists.specs.Play.{play}
use Rattle.rules_recorded_lists.specs.Pieces.{num, height, at, already_paid, attach, delivery, hash, attempt, held, fee_bearing, submission, book_of, drained, failed}
use Rattle.rules_recorded_lists.specs.Shared.{digest15, digest24, digest25, digest26, bundle1, bundle2}

abbrev pub start : Book
start = book_of 18446744073709551613 4 (
    submission 3 (held (attempt 18446744073709551612 EnsureBroadcast digest25 (hash digest15))) no_attempt digest24 bundle2 (fee_bearing bundle1 7) Attached (attach (replicate 32 3) 7) zero_hash InputSpent None
    ∷ [])
    ((delivery None bundle2 (at 0) (attach (replicate 32 3) 7) Protocol EnsureBroadcast) ∷ []) (3 ∷ []) (at 99) []

abbrev pub calls : List Call
calls =
    Call.FinishReplayIfAdvanced (height 18446744073709551614)
    ∷ Call.ReplayRollbackHeight
    ∷ Call.QueueRetainedDelivery 3 FreshChain FeeUpgrade
    ∷ Call.CollectRollbackReplayIds (3 ∷ [])
    ∷ Call.FinalizeAttempt 18446744073709551608 source.Joined zero_bundle
    ∷ Call.Drain
    ∷ Call.RetainSubmitted (7 ∷ [])
    ∷ Call.RelinquishCompletedAttempt 0
    ∷ Call.DrainRetirements
    ∷ Call.Drain
    ∷ []

abbrev pub answers : List (Answer Value)
answers =
    answer [] no_value
    ∷ answer [] (height_is None)
    ∷ answer [] no_value
    ∷ answer [] no_value
    ∷ answer [] (finalized None)
    ∷ answer (drained 3 18446744073709551613 (Some 18446744073709551612) Other bundle1 (at 0) already_paid ∷ []) (failures (failed 1 IntentDiffers 3 digest26 ∷ []))
    ∷ answer [] (ids_are [])
    ∷ answer [] (status_is Stale)
    ∷ answer [] (ids_are (3 ∷ []))
    ∷ answer [] (failures [])
    ∷ []

abbrev pub archive : List ℕ
archive = ((2 ∷ []) ++ replicate 7 255 ++ (254 ∷ []) ++ num 4 ++ zeros 5)

pub recorded : play calls start ≡ record { answers = answers; archive = archive }
unfolding play opened zero_output zero_spend zero_bundle zero_hash zero_attempt no_attempt base_variant Fips.K Fips.H0 Fips.pad Fips.schedule Fips.round Fips.rounds Fips.plus Fips.hashed
recorded = refl
