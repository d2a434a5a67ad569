-- Made by `oracle theorems --out crates`.
-- List 18622 of the seed, with what the Rust answered.
use Rattle.base_sha256.specs.Fips
use Rattle.std.specs.Prelude.{false, List, [], ◌∷◌, ◌++◌, ◌≡◌, refl, ℕ, replicate}
use Rattle.book.specs.Model.{Book}
use Rattle.book.specs.Zero.{zeros, zero_output, zero_spend, zero_bundle, zero_hash, zero_attempt, no_attempt, base_variant}
use Rattle.std.specs.Prelude.{None}
use Rattle.book.specs.declared.FeeResolution.TheVariants.{NotRequested}
use Rattle.book.specs.declared.SubmissionChainTerminality.TheVariants.{InputSpent}
use Rattle.book.specs.declared.SubmissionDeliveryGoal.TheVariants.{EnsureBroadcast, FeeUpgrade}
use Rattle.book.specs.declared.DeliveryTrigger.TheVariants.{Protocol, FreshChain, Rollback, ProviderReadiness}
use Rattle.rules.specs.Call.{Call, Value, no_value, ids_are, written}
use Rattle.rules.specs.Rule.{Answer, answer}
use Rattle.rules.specs.Opened.{opened}
use Rattle.rules_recorded_lists.specs.Play.{play}
use Rattle.rules_recorded_lists.specs.Pieces.{num, height, at, by_id, attach, delivery, fee_bearing, submission, book_of}
use Rattle.rules_recorded_lists.specs.Shared.{digest1, digest3, bundle16}

abbrev pub start : Book
start = book_of 18446744073709551614 18446744073709551516 (
    submission 18446744073709551515 no_attempt no_attempt (replicate 32 5) bundle16 (fee_bearing zero_bundle 18446744073709551615) NotRequested (attach (replicate 32 4) 0) zero_hash InputSpent (at 18446744073709551615)
    ∷ [])
    [] (1000 ∷ []) (at 101) []

abbrev pub calls : List Call
calls =
    Call.Queue (delivery None zero_bundle None (attach (replicate 32 4) 0) ProviderReadiness EnsureBroadcast)
    ∷ Call.Queue (delivery (by_id 18446744073709551515) bundle16 (at 18446744073709551615) (attach (replicate 32 4) 0) Protocol EnsureBroadcast)
    ∷ Call.ReconcileChainTerminality ((0 ∷ 1 ∷ 66 ∷ []) ++ digest1 ++ replicate 32 1 ++ (0 ∷ 128 ∷ [])) [] false (18446744073709551516 ∷ [])
    ∷ Call.ReconciliationInputCoins ((0 ∷ 1 ∷ 66 ∷ []) ++ digest1 ++ replicate 32 1 ++ (0 ∷ 128 ∷ [])) 73
    ∷ Call.QueueRebroadcastEpoch (18446744073709551515 ∷ []) Rollback
    ∷ Call.CausallyRolledBackIds ((0 ∷ 1 ∷ 66 ∷ []) ++ digest1 ++ replicate 32 1 ++ (0 ∷ 128 ∷ [])) (digest1 ++ digest3)
    ∷ Call.FinishReplayIfAdvanced (height 99)
    ∷ Call.DrainRetirements
    ∷ Call.QueueRetainedDelivery 18446744073709551515 FreshChain FeeUpgrade
    ∷ Call.Queue (delivery (by_id 18446744073709551515) bundle16 (at 18446744073709551615) (attach (replicate 32 4) 0) Protocol EnsureBroadcast)
    ∷ []

abbrev pub answers : List (Answer Value)
answers =
    answer [] no_value
    ∷ answer [] no_value
    ∷ answer [] no_value
    ∷ answer [] (written ((0 ∷ 2 ∷ 1 ∷ 7 ∷ 66 ∷ []) ++ digest1 ++ replicate 32 1 ++ (0 ∷ 128 ∷ [])))
    ∷ answer [] no_value
    ∷ answer [] (ids_are (18446744073709551515 ∷ []))
    ∷ answer [] no_value
    ∷ answer [] (ids_are (1000 ∷ 18446744073709551515 ∷ []))
    ∷ answer [] no_value
    ∷ answer [] no_value
    ∷ []

abbrev pub archive : List ℕ
archive = ((2 ∷ []) ++ replicate 7 255 ++ (254 ∷ []) ++ replicate 7 255 ++ (156 ∷ 1 ∷ []) ++ replicate 7 255 ++ (155 ∷ 0 ∷ 0 ∷ []) ++ replicate 32 5 ++ (2 ∷ 1 ∷ 7 ∷ []) ++ replicate 66 1 ++ num 128 ++ (66 ∷ []) ++ digest1 ++ replicate 32 1 ++ (0 ∷ 128 ∷ []) ++ zeros 32 ++ (1 ∷ 0 ∷ 1 ∷ 0 ∷ []) ++ replicate 8 255 ++ (1 ∷ 2 ∷ []) ++ replicate 32 4 ++ zeros 9 ++ (2 ∷ 1 ∷ []) ++ replicate 8 255 ++ (2 ∷ 0 ∷ 0 ∷ 0 ∷ 2 ∷ []) ++ replicate 32 4 ++ zeros 8 ++ (3 ∷ 0 ∷ 1 ∷ []) ++ replicate 7 255 ++ (155 ∷ 2 ∷ 1 ∷ 7 ∷ []) ++ replicate 66 1 ++ num 128 ++ (66 ∷ []) ++ digest1 ++ replicate 32 1 ++ (0 ∷ 128 ∷ []) ++ zeros 32 ++ (1 ∷ 0 ∷ 1 ∷ []) ++ replicate 8 255 ++ (2 ∷ []) ++ replicate 32 4 ++ zeros 11 ++ (1 ∷ []) ++ num 101 ++ (0 ∷ []))

pub recorded : play calls start ≡ record { answers = answers; archive = archive }
unfolding play opened zero_output zero_spend zero_bundle zero_hash zero_attempt no_attempt base_variant Fips.K Fips.H0 Fips.pad Fips.schedule Fips.round Fips.rounds Fips.plus Fips.hashed
recorded = refl
