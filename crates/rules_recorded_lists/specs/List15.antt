-- Made by `oracle theorems --out crates`.
-- List 14715 of the seed, with what the Rust answered.
use Rattle.base_sha256.specs.Fips
use Rattle.std.specs.Prelude.{true, false, List, [], ◌∷◌, ◌++◌, ◌≡◌, refl, ℕ, replicate}
use Rattle.book.specs.Model.{Book}
use Rattle.book.specs.Zero.{zeros, zero_output, zero_spend, zero_bundle, zero_hash, zero_attempt, no_attempt, base_variant}
use Rattle.std.specs.Prelude.{None}
use Rattle.book.specs.declared.FeeResolution.TheVariants.{NotRequested, Attached}
use Rattle.book.specs.declared.SubmissionChainTerminality.TheVariants.{Active, Landed}
use Rattle.book.specs.declared.SubmissionDeliveryGoal.TheVariants.{EnsureBroadcast, FeeUpgrade}
use Rattle.book.specs.declared.DeliveryTrigger.TheVariants.{Protocol, FreshChain, Rollback, ProviderReadiness}
use Rattle.book_answers.specs.declared.SubmissionFeeSource.TheVariants as source
use Rattle.rules.specs.Call.{Call, Value, no_value, ids_are, written}
use Rattle.rules.specs.Rule.{Answer, answer, refused}
use Rattle.rules.specs.Opened.{opened}
use Rattle.rules_recorded_lists.specs.Play.{play}
use Rattle.rules_recorded_lists.specs.Pieces.{num, at, by_id, already_paid, attach, delivery, hash, attempt, held, fee_bearing, submission, book_of}
use Rattle.rules_recorded_lists.specs.Shared.{digest1, digest8, digest15, digest29, digest30, bundle2, bundle15}

abbrev pub start : Book
start = book_of 41 2 (
    submission 0 no_attempt (held (attempt 40 EnsureBroadcast digest8 (hash digest8))) digest29 zero_bundle base_variant NotRequested already_paid zero_hash Active (at 0)
    ∷ submission 1 (held (attempt 38 EnsureBroadcast digest15 (hash digest15))) (held (attempt 39 EnsureBroadcast digest15 zero_hash)) digest30 bundle2 (fee_bearing bundle2 7) Attached (attach (replicate 32 3) 8) zero_hash Landed (at 100)
    ∷ [])
    ((delivery None zero_bundle (at 100) (attach (replicate 32 255) 18446744073709551615) FreshChain EnsureBroadcast) ∷ (delivery None bundle2 None (attach (replicate 32 3) 8) FreshChain EnsureBroadcast) ∷ []) [] (at 100) (0 ∷ 1 ∷ [])

abbrev pub calls : List Call
calls =
    Call.ReconcileChainTerminality (0 ∷ 0 ∷ []) digest1 true (1 ∷ 0 ∷ [])
    ∷ Call.StopAttempt 41
    ∷ Call.ReconcileChainTerminality (0 ∷ 0 ∷ []) [] false []
    ∷ Call.Queue (delivery (by_id 0) bundle2 None (attach (replicate 32 3) 8) ProviderReadiness EnsureBroadcast)
    ∷ Call.ReconciliationInputCoins ((0 ∷ 1 ∷ 40 ∷ []) ++ replicate 39 1) 5
    ∷ Call.RetainSubmitted (1 ∷ 1 ∷ 10 ∷ 0 ∷ [])
    ∷ Call.DrainRetirements
    ∷ Call.Queue (delivery None zero_bundle (at 18446744073709551615) (attach (replicate 32 255) 18446744073709551615) ProviderReadiness FeeUpgrade)
    ∷ Call.FinalizeAttempt 18446744073709551615 source.JoinFailed zero_bundle
    ∷ Call.EmitRetirement 18446744073709551615
    ∷ Call.FinalizeAttempt 41 source.Failed bundle15
    ∷ Call.ReconciliationInputCoins (0 ∷ 1 ∷ 0 ∷ []) 2
    ∷ Call.AbsentOutputsForIds (25 ∷ 2 ∷ []) (0 ∷ 1 ∷ 64 ∷ []) 0
    ∷ Call.AbsentOutputsForIds (18 ∷ 27 ∷ 2 ∷ 2 ∷ []) (0 ∷ 0 ∷ []) 1
    ∷ Call.Queue (delivery None zero_bundle None (attach (replicate 32 3) 8) Rollback EnsureBroadcast)
    ∷ Call.Queue (delivery None zero_bundle None (attach (replicate 32 4) 0) Protocol EnsureBroadcast)
    ∷ Call.RetainSubmitted (replicate 65 0)
    ∷ Call.EmitRetirement 18
    ∷ Call.Queue (delivery None zero_bundle (at 100) (attach (replicate 32 4) 0) Protocol EnsureBroadcast)
    ∷ []

abbrev pub answers : List (Answer Value)
answers =
    answer [] no_value
    ∷ refused 4
    ∷ answer [] no_value
    ∷ answer [] no_value
    ∷ refused 2
    ∷ answer [] (ids_are (0 ∷ 1 ∷ []))
    ∷ answer [] (ids_are (1 ∷ 0 ∷ []))
    ∷ answer [] no_value
    ∷ refused 4
    ∷ answer [] no_value
    ∷ refused 3
    ∷ answer [] (written (0 ∷ 0 ∷ []))
    ∷ refused 2
    ∷ refused 12
    ∷ answer [] no_value
    ∷ answer [] no_value
    ∷ refused 2
    ∷ answer [] no_value
    ∷ answer [] no_value
    ∷ []

abbrev pub archive : List ℕ
archive = ((2 ∷ []) ++ num 41 ++ num 2 ++ (0 ∷ 6 ∷ 0 ∷ 0 ∷ 1 ∷ []) ++ num 100 ++ (2 ∷ []) ++ replicate 40 255 ++ (1 ∷ 0 ∷ 0 ∷ 1 ∷ 1 ∷ 7 ∷ []) ++ zeros 32 ++ (1 ∷ 0 ∷ 0 ∷ 2 ∷ []) ++ replicate 32 3 ++ num 8 ++ (1 ∷ 0 ∷ 0 ∷ 0 ∷ 1 ∷ []) ++ replicate 8 255 ++ (2 ∷ []) ++ replicate 40 255 ++ (3 ∷ 1 ∷ 0 ∷ 0 ∷ 0 ∷ 2 ∷ []) ++ replicate 32 3 ++ num 8 ++ (2 ∷ 0 ∷ 0 ∷ 0 ∷ 0 ∷ 2 ∷ []) ++ replicate 32 4 ++ zeros 12 ++ (1 ∷ []) ++ num 100 ++ (2 ∷ []) ++ replicate 32 4 ++ zeros 10 ++ (2 ∷ []) ++ replicate 8 255 ++ num 18 ++ (1 ∷ []) ++ num 100 ++ (0 ∷ []))

pub recorded : play calls start ≡ record { answers = answers; archive = archive }
unfolding play opened zero_output zero_spend zero_bundle zero_hash zero_attempt no_attempt base_variant Fips.K Fips.H0 Fips.pad Fips.schedule Fips.round Fips.rounds Fips.plus Fips.hashed
recorded = refl
