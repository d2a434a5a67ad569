-- Made by `oracle theorems --out crates`.
-- List 4000 of the seed, with what the Rust answered.
use Rattle.base_sha256.specs.Fips
use Rattle.std.specs.Prelude.{true, false, List, [], ◌∷◌, ◌++◌, ◌≡◌, refl, ℕ, replicate}
use Rattle.std.specs.Prelude.{None, Some}
use Rattle.book.specs.Model.{Book}
use Rattle.book.specs.Zero.{zeros, zero_output, zero_spend, zero_bundle, zero_hash, zero_attempt, no_attempt, base_variant}
use Rattle.book.specs.declared.SubmissionDeliveryGoal.TheVariants.{EnsureBroadcast, FeeUpgrade}
use Rattle.book.specs.declared.DeliveryTrigger.TheVariants.{Protocol, FreshChain, ProviderReadiness}
use Rattle.book_answers.specs.declared.DrainFailureCause.TheVariants.{NoRetainedState}
use Rattle.book_answers.specs.declared.FeeSourceDisposition.TheVariants as disposition
use Rattle.book_answers.specs.declared.SubmissionAttemptRelationship.TheVariants.{Initial}
use Rattle.book_answers.specs.declared.SubmissionAttemptStatus.TheVariants.{Stale}
use Rattle.book_answers.specs.declared.SubmissionFeeSource.TheVariants as source
use Rattle.rules.specs.Call.{Call, Value, no_value, failures, finalized, status_is, flag, height_is, written}
use Rattle.rules.specs.Rule.{Answer, answer, refused}
use Rattle.rules.specs.Opened.{opened}
use Rattle.rules_recorded_lists.specs.Play.{play}
use Rattle.rules_recorded_lists.specs.Pieces.{num, height, at, by_id, attach, delivery, drained, failed, finalized_as}
use Rattle.rules_recorded_lists.specs.Shared.{digest8, digest9, digest10, digest11, bundle1, bundle2}

abbrev pub start : Book
start = opened 18446744073709551614 1

abbrev pub calls : List Call
calls =
    Call.ReplayRollbackHeight
    ∷ Call.Drain
    ∷ Call.AcknowledgeAttempt 18446744073709551610
    ∷ Call.Queue (delivery None zero_bundle None (attach (replicate 32 255) 18446744073709551615) FreshChain FeeUpgrade)
    ∷ Call.Queue (delivery (by_id 9) bundle1 None (attach (replicate 32 3) 8) ProviderReadiness FeeUpgrade)
    ∷ Call.BeginReplay (height 18446744073709551615)
    ∷ Call.RelinquishCompletedAttempt 18446744073709551611
    ∷ Call.ReconciliationInputCoins (0 ∷ 0 ∷ []) 5
    ∷ Call.WriteArchive 167
    ∷ Call.Drain
    ∷ Call.Queue (delivery None bundle2 (at 50) (attach (replicate 32 255) 18446744073709551615) Protocol EnsureBroadcast)
    ∷ Call.QueueRetainedDelivery 1 FreshChain EnsureBroadcast
    ∷ Call.Drain
    ∷ Call.FinalizeAttempt 18446744073709551614 source.JoinFailed zero_bundle
    ∷ []

abbrev pub answers : List (Answer Value)
answers =
    answer [] (height_is None)
    ∷ answer [] (failures [])
    ∷ answer [] (status_is Stale)
    ∷ answer [] no_value
    ∷ answer [] no_value
    ∷ answer [] (flag true)
    ∷ answer [] (status_is Stale)
    ∷ answer [] (written (0 ∷ 0 ∷ []))
    ∷ answer [] (written ((2 ∷ []) ++ replicate 7 255 ++ (254 ∷ []) ++ num 1 ++ (0 ∷ 2 ∷ 0 ∷ 0 ∷ 0 ∷ 2 ∷ []) ++ replicate 40 255 ++ (1 ∷ 1 ∷ 1 ∷ []) ++ num 9 ++ (1 ∷ 1 ∷ 7 ∷ []) ++ replicate 32 1 ++ (0 ∷ 0 ∷ 2 ∷ []) ++ replicate 32 3 ++ num 8 ++ (3 ∷ 1 ∷ 0 ∷ 1 ∷ []) ++ replicate 8 255 ++ (0 ∷ [])))
    ∷ answer (drained 1 18446744073709551614 None Initial zero_bundle None (attach (replicate 32 255) 18446744073709551615) ∷ []) (failures (failed 1 NoRetainedState 9 digest10 ∷ []))
    ∷ answer [] no_value
    ∷ answer [] no_value
    ∷ refused 11
    ∷ answer [] (finalized (Some (finalized_as zero_bundle 0 true disposition.Unused digest8 false)))
    ∷ []

abbrev pub archive : List ℕ
archive = ((2 ∷ []) ++ replicate 8 255 ++ num 3 ++ (2 ∷ []) ++ num 1 ++ (1 ∷ []) ++ replicate 7 255 ++ (254 ∷ 1 ∷ []) ++ digest8 ++ (1 ∷ []) ++ digest8 ++ (0 ∷ []) ++ digest9 ++ (0 ∷ 0 ∷ 0 ∷ 2 ∷ []) ++ replicate 40 255 ++ zeros 10 ++ (2 ∷ 0 ∷ 0 ∷ []) ++ digest11 ++ (1 ∷ 1 ∷ 7 ∷ []) ++ zeros 32 ++ (1 ∷ 0 ∷ 0 ∷ 0 ∷ 2 ∷ []) ++ replicate 40 255 ++ (0 ∷ 0 ∷ 1 ∷ []) ++ num 50 ++ (0 ∷ 0 ∷ 1 ∷ []) ++ replicate 8 255 ++ (0 ∷ []))

pub recorded : play calls start ≡ record { answers = answers; archive = archive }
unfolding play opened zero_output zero_spend zero_bundle zero_hash zero_attempt no_attempt base_variant Fips.K Fips.H0 Fips.pad Fips.schedule Fips.round Fips.rounds Fips.plus Fips.hashed
recorded = refl
