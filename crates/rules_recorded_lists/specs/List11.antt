-- Made by `oracle theorems --out crates`.
-- List 12819 of the seed, with what the Rust answered.
use Rattle.base_sha256.specs.Fips
use Rattle.std.specs.Prelude.{true, false, List, [], ◌∷◌, ◌++◌, ◌≡◌, refl, ℕ, replicate}
use Rattle.book.specs.Model.{Book}
use Rattle.book.specs.Zero.{zeros, zero_output, zero_spend, zero_bundle, zero_hash, zero_attempt, no_attempt, base_variant}
use Rattle.std.specs.Prelude.{None}
use Rattle.book.specs.declared.FeeResolution.TheVariants.{NotRequested}
use Rattle.book.specs.declared.SubmissionChainTerminality.TheVariants.{InputSpent}
use Rattle.book.specs.declared.SubmissionDeliveryGoal.TheVariants.{EnsureBroadcast, FeeUpgrade}
use Rattle.book.specs.declared.DeliveryTrigger.TheVariants.{FreshChain, Rollback, ProviderReadiness}
use Rattle.book_answers.specs.declared.SubmissionFeeSource.TheVariants as source
use Rattle.rules.specs.Call.{Call, Value, no_value, ids_are, flag, written}
use Rattle.rules.specs.Rule.{Answer, answer, refused}
use Rattle.rules.specs.Opened.{opened}
use Rattle.rules_recorded_lists.specs.Play.{play}
use Rattle.rules_recorded_lists.specs.Pieces.{num, height, at, already_paid, attach, delivery, fee_bearing, submission, book_of}
use Rattle.rules_recorded_lists.specs.Shared.{digest27, bundle3, bundle4, bundle11, bundle12, bundle13}

abbrev pub start : Book
start = book_of 44 1 (
    submission 1 no_attempt no_attempt digest27 zero_bundle (fee_bearing bundle4 18446744073709551615) NotRequested already_paid zero_hash InputSpent None
    ∷ [])
    [] (1000 ∷ []) (at 0) []

abbrev pub calls : List Call
calls =
    Call.CausallyRolledBackIds (0 ∷ []) (replicate 32 9)
    ∷ Call.Queue (delivery None zero_bundle (at 50) already_paid Rollback FeeUpgrade)
    ∷ Call.AbandonAttempt 44
    ∷ Call.FinalizeAttempt 45 source.Joined bundle11
    ∷ Call.CollectRollbackReplayIds (replicate 65 0)
    ∷ Call.AbsentOutputsForIds (replicate 64 21) (0 ∷ 0 ∷ []) 0
    ∷ Call.CausallyRolledBackIds (0 ∷ 0 ∷ []) (replicate 32 9 ++ (0 ∷ []))
    ∷ Call.RetainSubmitted (replicate 65 0)
    ∷ Call.CollectRollbackReplayIds (1000 ∷ 18446744073709551615 ∷ [])
    ∷ Call.CausallyRolledBackIds (0 ∷ 0 ∷ []) (replicate 32 9)
    ∷ Call.BeginReplay (height 0)
    ∷ Call.QueueRebroadcastEpoch (1000 ∷ 1 ∷ []) Rollback
    ∷ Call.WriteArchive 153
    ∷ Call.ReconcileChainTerminality (0 ∷ 0 ∷ []) [] false (1 ∷ [])
    ∷ Call.QueueRebroadcastEpoch (1000 ∷ []) FreshChain
    ∷ Call.Queue (delivery None bundle3 None (attach (replicate 32 4) 0) FreshChain EnsureBroadcast)
    ∷ Call.DrainRetirements
    ∷ Call.Queue (delivery None bundle12 None (attach (replicate 32 255) 18446744073709551615) FreshChain EnsureBroadcast)
    ∷ Call.AbsentOutputsForIds (1 ∷ 18446744073709551615 ∷ []) ((0 ∷ 1 ∷ 74 ∷ []) ++ replicate 74 1) 8
    ∷ Call.Queue (delivery None bundle13 (at 18446744073709551615) (attach (replicate 32 3) 7) ProviderReadiness EnsureBroadcast)
    ∷ Call.ReconcileChainTerminality (0 ∷ 1 ∷ 0 ∷ []) [] true (1 ∷ 1 ∷ 1 ∷ [])
    ∷ []

abbrev pub answers : List (Answer Value)
answers =
    refused 2
    ∷ answer [] no_value
    ∷ refused 4
    ∷ refused 3
    ∷ refused 2
    ∷ refused 12
    ∷ refused 2
    ∷ refused 2
    ∷ answer [] no_value
    ∷ answer [] (ids_are (1 ∷ []))
    ∷ answer [] (flag false)
    ∷ answer [] no_value
    ∷ answer [] (written ((2 ∷ []) ++ num 44 ++ num 1 ++ (1 ∷ []) ++ num 1 ++ (0 ∷ 0 ∷ []) ++ digest27 ++ (0 ∷ 1 ∷ 1 ∷ []) ++ zeros 33 ++ (1 ∷ 0 ∷ []) ++ replicate 8 255 ++ (1 ∷ 0 ∷ 0 ∷ 1 ∷ 0 ∷ 1 ∷ 0 ∷ 0 ∷ 1 ∷ []) ++ num 50 ++ (0 ∷ 2 ∷ 1 ∷ 1 ∷ []) ++ zeros 6 ++ (3 ∷ 232 ∷ 1 ∷ []) ++ zeros 9))
    ∷ answer [] no_value
    ∷ answer [] no_value
    ∷ answer [] no_value
    ∷ answer [] (ids_are (1000 ∷ []))
    ∷ refused 3
    ∷ refused 2
    ∷ refused 3
    ∷ answer [] no_value
    ∷ []

abbrev pub archive : List ℕ
archive = ((2 ∷ []) ++ num 44 ++ num 1 ++ (1 ∷ []) ++ num 1 ++ (0 ∷ 0 ∷ []) ++ digest27 ++ (0 ∷ 1 ∷ 1 ∷ []) ++ zeros 33 ++ (1 ∷ 0 ∷ []) ++ replicate 8 255 ++ (1 ∷ 0 ∷ 0 ∷ 0 ∷ 0 ∷ 2 ∷ 0 ∷ 0 ∷ 1 ∷ []) ++ num 50 ++ (0 ∷ 2 ∷ 1 ∷ 0 ∷ 1 ∷ 1 ∷ 7 ∷ []) ++ replicate 66 1 ++ num 128 ++ (0 ∷ 2 ∷ []) ++ replicate 32 4 ++ zeros 8 ++ (1 ∷ 0 ∷ 0 ∷ 1 ∷ []) ++ zeros 9)

pub recorded : play calls start ≡ record { answers = answers; archive = archive }
unfolding play opened zero_output zero_spend zero_bundle zero_hash zero_attempt no_attempt base_variant Fips.K Fips.H0 Fips.pad Fips.schedule Fips.round Fips.rounds Fips.plus Fips.hashed
recorded = refl
