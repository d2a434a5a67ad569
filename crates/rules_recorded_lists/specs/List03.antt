-- Made by `oracle theorems --out crates`.
-- List 5604 of the seed, with what the Rust answered.
use Rattle.base_sha256.specs.Fips
use Rattle.std.specs.Prelude.{true, false, List, [], ◌∷◌, ◌++◌, ◌≡◌, refl, ℕ, replicate}
use Rattle.book.specs.Model.{Book}
use Rattle.book.specs.Zero.{zeros, zero_output, zero_spend, zero_bundle, zero_hash, zero_attempt, no_attempt, base_variant}
use Rattle.std.specs.Prelude.{None}
use Rattle.book.specs.declared.FeeResolution.TheVariants.{Unresolved, NotRequested}
use Rattle.book.specs.declared.SubmissionChainTerminality.TheVariants.{Active, Landed}
use Rattle.book.specs.declared.SubmissionDeliveryGoal.TheVariants.{EnsureBroadcast, FeeUpgrade}
use Rattle.book.specs.declared.DeliveryTrigger.TheVariants.{Protocol, FreshChain, Rollback, ProviderReadiness}
use Rattle.book_answers.specs.declared.SubmissionAttemptStatus.TheVariants.{Stale}
use Rattle.rules.specs.Call.{Call, Value, no_value, status_is, flag, written}
use Rattle.rules.specs.Rule.{Answer, answer, refused}
use Rattle.rules.specs.Opened.{opened}
use Rattle.rules_recorded_lists.specs.Play.{play}
use Rattle.rules_recorded_lists.specs.Pieces.{num, count_from, height, at, already_paid, attach, delivery, attempt, held, submission, book_of}
use Rattle.rules_recorded_lists.specs.Shared.{digest1, digest12, bundle1, bundle2, bundle3, bundle4}

abbrev pub start : Book
start = book_of 43 4 (
    submission 4 (held (attempt 42 EnsureBroadcast (replicate 32 5) zero_hash)) no_attempt digest12 bundle3 base_variant NotRequested already_paid zero_hash Landed (at 100)
    ∷ submission 3 no_attempt no_attempt digest12 bundle3 base_variant Unresolved already_paid zero_hash Active (at 100)
    ∷ [])
    ((delivery None zero_bundle (at 50) (attach (replicate 32 3) 8) Protocol FeeUpgrade) ∷ (delivery None bundle3 (at 0) already_paid Rollback EnsureBroadcast) ∷ (delivery None bundle3 (at 0) (attach (replicate 32 3) 8) FreshChain EnsureBroadcast) ∷ (delivery None bundle3 None (attach (replicate 32 3) 7) FreshChain EnsureBroadcast) ∷ (delivery None bundle3 (at 0) already_paid ProviderReadiness FeeUpgrade) ∷ (delivery None bundle3 (at 0) (attach (replicate 32 3) 8) ProviderReadiness EnsureBroadcast) ∷ (delivery None bundle3 (at 0) (attach (replicate 32 3) 7) ProviderReadiness EnsureBroadcast) ∷ (delivery None zero_bundle (at 18446744073709551615) already_paid Protocol EnsureBroadcast) ∷ (delivery None bundle3 (at 0) already_paid Protocol EnsureBroadcast) ∷ (delivery None bundle1 (at 2009) (attach (replicate 32 255) 18446744073709551615) FreshChain FeeUpgrade) ∷ (delivery None bundle3 (at 0) already_paid ProviderReadiness EnsureBroadcast) ∷ (delivery None zero_bundle (at 100) (attach (replicate 32 4) 0) Rollback EnsureBroadcast) ∷ (delivery None bundle3 (at 0) (attach (replicate 32 3) 8) ProviderReadiness EnsureBroadcast) ∷ (delivery None bundle4 (at 50) already_paid FreshChain EnsureBroadcast) ∷ (delivery None zero_bundle None (attach (replicate 32 3) 8) ProviderReadiness FeeUpgrade) ∷ (delivery None bundle3 (at 0) already_paid Protocol EnsureBroadcast) ∷ []) (count_from 1000 64) (at 99) []

abbrev pub calls : List Call
calls =
    Call.RelinquishCompletedAttempt 42
    ∷ Call.AbsentOutputsForIds (3 ∷ 4 ∷ 3 ∷ []) ((0 ∷ 2 ∷ 66 ∷ []) ++ digest1 ++ replicate 32 1 ++ (0 ∷ 128 ∷ 1 ∷ 9 ∷ [])) 139
    ∷ Call.EmitRetirement 4
    ∷ Call.QueueRetainedDelivery 4 Protocol FeeUpgrade
    ∷ Call.CollectRollbackReplayIds (3 ∷ [])
    ∷ Call.BeginReplay (height 99)
    ∷ Call.CollectRollbackReplayIds (1007 ∷ 3 ∷ [])
    ∷ Call.EmitRetirement 3
    ∷ Call.QueueFeeReadiness
    ∷ Call.ReconcileChainTerminality ((0 ∷ 1 ∷ 66 ∷ []) ++ digest1 ++ replicate 32 1 ++ (0 ∷ 128 ∷ [])) [] true (18446744073709551615 ∷ [])
    ∷ Call.Queue (delivery None bundle2 None already_paid FreshChain EnsureBroadcast)
    ∷ Call.RetainSubmitted (3 ∷ 4 ∷ [])
    ∷ Call.QueueFeeReadiness
    ∷ []

abbrev pub answers : List (Answer Value)
answers =
    answer [] (status_is Stale)
    ∷ answer [] (written ((0 ∷ 2 ∷ 66 ∷ []) ++ digest1 ++ replicate 32 1 ++ (0 ∷ 128 ∷ 66 ∷ []) ++ digest1 ++ replicate 32 1 ++ (0 ∷ 128 ∷ [])))
    ∷ refused 10
    ∷ answer [] no_value
    ∷ refused 10
    ∷ answer [] (flag false)
    ∷ refused 10
    ∷ refused 10
    ∷ refused 10
    ∷ refused 10
    ∷ refused 10
    ∷ refused 10
    ∷ refused 10
    ∷ []

abbrev pub archive : List ℕ
archive = ((2 ∷ []) ++ num 43 ++ num 4 ++ (2 ∷ []) ++ num 4 ++ (1 ∷ []) ++ num 42 ++ (0 ∷ []) ++ replicate 32 5 ++ (0 ∷ 0 ∷ []) ++ digest12 ++ (1 ∷ 1 ∷ 7 ∷ []) ++ replicate 66 1 ++ num 128 ++ (0 ∷ 1 ∷ 0 ∷ 0 ∷ 2 ∷ 1 ∷ []) ++ num 100 ++ num 3 ++ (0 ∷ 0 ∷ []) ++ digest12 ++ (1 ∷ 1 ∷ 7 ∷ []) ++ replicate 66 1 ++ num 128 ++ zeros 5 ++ (1 ∷ []) ++ num 100 ++ (16 ∷ 0 ∷ 0 ∷ 1 ∷ []) ++ num 50 ++ (2 ∷ []) ++ replicate 32 3 ++ num 8 ++ (0 ∷ 1 ∷ 0 ∷ 1 ∷ 1 ∷ 7 ∷ []) ++ replicate 66 1 ++ num 128 ++ (1 ∷ []) ++ zeros 9 ++ (2 ∷ 0 ∷ 0 ∷ 1 ∷ 1 ∷ 7 ∷ []) ++ replicate 66 1 ++ num 128 ++ (1 ∷ []) ++ zeros 8 ++ (2 ∷ []) ++ replicate 32 3 ++ num 8 ++ (1 ∷ 0 ∷ 0 ∷ 1 ∷ 1 ∷ 7 ∷ []) ++ replicate 66 1 ++ num 128 ++ (0 ∷ 2 ∷ []) ++ replicate 32 3 ++ num 7 ++ (1 ∷ 0 ∷ 0 ∷ 1 ∷ 1 ∷ 7 ∷ []) ++ replicate 66 1 ++ num 128 ++ (1 ∷ []) ++ zeros 9 ++ (3 ∷ 1 ∷ 0 ∷ 1 ∷ 1 ∷ 7 ∷ []) ++ replicate 66 1 ++ num 128 ++ (1 ∷ []) ++ zeros 8 ++ (2 ∷ []) ++ replicate 32 3 ++ num 8 ++ (3 ∷ 0 ∷ 0 ∷ 1 ∷ 1 ∷ 7 ∷ []) ++ replicate 66 1 ++ num 128 ++ (1 ∷ []) ++ zeros 8 ++ (2 ∷ []) ++ replicate 32 3 ++ num 7 ++ (3 ∷ 0 ∷ 0 ∷ 0 ∷ 1 ∷ []) ++ replicate 8 255 ++ (0 ∷ 0 ∷ 0 ∷ 0 ∷ 1 ∷ 1 ∷ 7 ∷ []) ++ replicate 66 1 ++ num 128 ++ (1 ∷ []) ++ zeros 12 ++ (1 ∷ 1 ∷ 7 ∷ []) ++ replicate 32 1 ++ (0 ∷ 1 ∷ []) ++ zeros 6 ++ (7 ∷ 217 ∷ 2 ∷ []) ++ replicate 40 255 ++ (1 ∷ 1 ∷ 0 ∷ 1 ∷ 1 ∷ 7 ∷ []) ++ replicate 66 1 ++ num 128 ++ (1 ∷ []) ++ zeros 9 ++ (3 ∷ 0 ∷ 0 ∷ 0 ∷ 1 ∷ []) ++ num 100 ++ (2 ∷ []) ++ replicate 32 4 ++ zeros 8 ++ (2 ∷ 0 ∷ 0 ∷ 1 ∷ 1 ∷ 7 ∷ []) ++ replicate 66 1 ++ num 128 ++ (1 ∷ []) ++ zeros 8 ++ (2 ∷ []) ++ replicate 32 3 ++ num 8 ++ (3 ∷ 0 ∷ 0 ∷ 1 ∷ []) ++ zeros 33 ++ (1 ∷ 0 ∷ 1 ∷ []) ++ num 50 ++ (0 ∷ 1 ∷ 0 ∷ 0 ∷ 0 ∷ 0 ∷ 2 ∷ []) ++ replicate 32 3 ++ num 8 ++ (3 ∷ 1 ∷ 0 ∷ 1 ∷ 1 ∷ 7 ∷ []) ++ replicate 66 1 ++ num 128 ++ (1 ∷ []) ++ zeros 11 ++ (64 ∷ []) ++ zeros 6 ++ (3 ∷ 232 ∷ []) ++ zeros 6 ++ (3 ∷ 233 ∷ []) ++ zeros 6 ++ (3 ∷ 234 ∷ []) ++ zeros 6 ++ (3 ∷ 235 ∷ []) ++ zeros 6 ++ (3 ∷ 236 ∷ []) ++ zeros 6 ++ (3 ∷ 237 ∷ []) ++ zeros 6 ++ (3 ∷ 238 ∷ []) ++ zeros 6 ++ (3 ∷ 239 ∷ []) ++ zeros 6 ++ (3 ∷ 240 ∷ []) ++ zeros 6 ++ (3 ∷ 241 ∷ []) ++ zeros 6 ++ (3 ∷ 242 ∷ []) ++ zeros 6 ++ (3 ∷ 243 ∷ []) ++ zeros 6 ++ (3 ∷ 244 ∷ []) ++ zeros 6 ++ (3 ∷ 245 ∷ []) ++ zeros 6 ++ (3 ∷ 246 ∷ []) ++ zeros 6 ++ (3 ∷ 247 ∷ []) ++ zeros 6 ++ (3 ∷ 248 ∷ []) ++ zeros 6 ++ (3 ∷ 249 ∷ []) ++ zeros 6 ++ (3 ∷ 250 ∷ []) ++ zeros 6 ++ (3 ∷ 251 ∷ []) ++ zeros 6 ++ (3 ∷ 252 ∷ []) ++ zeros 6 ++ (3 ∷ 253 ∷ []) ++ zeros 6 ++ (3 ∷ 254 ∷ []) ++ zeros 6 ++ (3 ∷ 255 ∷ []) ++ zeros 6 ++ (4 ∷ []) ++ num 4 ++ (1 ∷ []) ++ zeros 6 ++ (4 ∷ 2 ∷ []) ++ zeros 6 ++ (4 ∷ 3 ∷ []) ++ zeros 6 ++ (4 ∷ 4 ∷ []) ++ zeros 6 ++ (4 ∷ 5 ∷ []) ++ zeros 6 ++ (4 ∷ 6 ∷ []) ++ zeros 6 ++ (4 ∷ 7 ∷ []) ++ zeros 6 ++ (4 ∷ 8 ∷ []) ++ zeros 6 ++ (4 ∷ 9 ∷ []) ++ zeros 6 ++ (4 ∷ 10 ∷ []) ++ zeros 6 ++ (4 ∷ 11 ∷ []) ++ zeros 6 ++ (4 ∷ 12 ∷ []) ++ zeros 6 ++ (4 ∷ 13 ∷ []) ++ zeros 6 ++ (4 ∷ 14 ∷ []) ++ zeros 6 ++ (4 ∷ 15 ∷ []) ++ zeros 6 ++ (4 ∷ 16 ∷ []) ++ zeros 6 ++ (4 ∷ 17 ∷ []) ++ zeros 6 ++ (4 ∷ 18 ∷ []) ++ zeros 6 ++ (4 ∷ 19 ∷ []) ++ zeros 6 ++ (4 ∷ 20 ∷ []) ++ zeros 6 ++ (4 ∷ 21 ∷ []) ++ zeros 6 ++ (4 ∷ 22 ∷ []) ++ zeros 6 ++ (4 ∷ 23 ∷ []) ++ zeros 6 ++ (4 ∷ 24 ∷ []) ++ zeros 6 ++ (4 ∷ 25 ∷ []) ++ zeros 6 ++ (4 ∷ 26 ∷ []) ++ zeros 6 ++ (4 ∷ 27 ∷ []) ++ zeros 6 ++ (4 ∷ 28 ∷ []) ++ zeros 6 ++ (4 ∷ 29 ∷ []) ++ zeros 6 ++ (4 ∷ 30 ∷ []) ++ zeros 6 ++ (4 ∷ 31 ∷ []) ++ zeros 6 ++ (4 ∷ 32 ∷ []) ++ zeros 6 ++ (4 ∷ 33 ∷ []) ++ zeros 6 ++ (4 ∷ 34 ∷ []) ++ zeros 6 ++ (4 ∷ 35 ∷ []) ++ zeros 6 ++ (4 ∷ 36 ∷ []) ++ zeros 6 ++ (4 ∷ 37 ∷ []) ++ zeros 6 ++ (4 ∷ 38 ∷ []) ++ zeros 6 ++ (4 ∷ 39 ∷ 1 ∷ []) ++ num 99 ++ (0 ∷ []))

pub recorded : play calls start ≡ record { answers = answers; archive = archive }
unfolding play opened zero_output zero_spend zero_bundle zero_hash zero_attempt no_attempt base_variant Fips.K Fips.H0 Fips.pad Fips.schedule Fips.round Fips.rounds Fips.plus Fips.hashed
recorded = refl
