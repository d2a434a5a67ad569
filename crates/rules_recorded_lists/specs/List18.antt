-- Made by `oracle theorems --out crates`.
-- List 18947 of the seed, with what the Rust answered.
use Rattle.base_sha256.specs.Fips
use Rattle.std.specs.Prelude.{true, false, List, [], ◌∷◌, ◌++◌, ◌≡◌, refl, ℕ, replicate}
use Rattle.std.specs.Prelude.{None, Some}
use Rattle.book.specs.Model.{Book}
use Rattle.book.specs.Zero.{zeros, zero_output, zero_spend, zero_bundle, zero_hash, zero_attempt, no_attempt, base_variant}
use Rattle.book.specs.declared.FeeResolution.TheVariants.{Unresolved, NotRequested}
use Rattle.book.specs.declared.SubmissionChainTerminality.TheVariants.{Active, Landed}
use Rattle.book.specs.declared.SubmissionDeliveryGoal.TheVariants.{EnsureBroadcast}
use Rattle.book.specs.declared.DeliveryTrigger.TheVariants.{FreshChain, Rollback}
use Rattle.book_answers.specs.declared.SubmissionAttemptStatus.TheVariants.{Applied}
use Rattle.rules.specs.Call.{Call, Value, no_value, status_is, ids_are, attempt_is, written}
use Rattle.rules.specs.Rule.{Answer, answer, refused}
use Rattle.rules.specs.Opened.{opened}
use Rattle.rules_recorded_lists.specs.Play.{play}
use Rattle.rules_recorded_lists.specs.Pieces.{num, at, by_id, no_fee, attach, delivery, hash, attempt, held, submission, book_of}
use Rattle.rules_recorded_lists.specs.Shared.{digest6, digest8, digest34, digest35, bundle17}

abbrev pub start : Book
start = book_of 42 18446744073709551614 (
    submission 4 (held (attempt 40 EnsureBroadcast digest8 (hash (replicate 32 5)))) no_attempt digest34 zero_bundle base_variant Unresolved (attach (replicate 32 255) 18446744073709551615) (hash digest8) Active (at 18446744073709551615)
    ∷ submission 3 no_attempt no_attempt digest35 zero_bundle base_variant Unresolved no_fee zero_hash Landed (at 100)
    ∷ submission 2 (held (attempt 41 EnsureBroadcast digest6 (hash (replicate 32 5)))) no_attempt digest34 zero_bundle base_variant NotRequested (attach (replicate 32 255) 18446744073709551615) zero_hash Active (at 18446744073709551615)
    ∷ [])
    [] (2 ∷ []) (at 18446744073709551614) []

abbrev pub calls : List Call
calls =
    Call.ReconciliationInputCoins ((0 ∷ 2 ∷ 40 ∷ []) ++ replicate 40 1) 2
    ∷ Call.Attempt 41
    ∷ Call.WriteArchive 470
    ∷ Call.QueueRebroadcastEpoch (3 ∷ []) FreshChain
    ∷ Call.Queue (delivery (by_id 2) bundle17 None (attach (replicate 32 3) 8) Rollback EnsureBroadcast)
    ∷ Call.ReconcileChainTerminality (0 ∷ 0 ∷ []) [] false []
    ∷ Call.EmitRetirement 2
    ∷ Call.ReconciliationInputCoins (0 ∷ 0 ∷ []) 2
    ∷ Call.AbandonAttempt 41
    ∷ Call.ReconcileChainTerminality (0 ∷ 0 ∷ []) [] true (replicate 65 0)
    ∷ Call.Queue (delivery (by_id 2) zero_bundle (at 0) (attach (replicate 32 4) 0) Rollback EnsureBroadcast)
    ∷ Call.CausallyRolledBackIds (0 ∷ 2 ∷ 1 ∷ 9 ∷ []) []
    ∷ Call.AbsentOutputsForIds (3 ∷ 4 ∷ []) (0 ∷ 0 ∷ []) 2
    ∷ Call.Attempt 0
    ∷ Call.StopAttempt 40
    ∷ Call.CausallyRolledBackIds (0 ∷ 0 ∷ []) []
    ∷ Call.QueueRebroadcastEpoch (replicate 65 0) Rollback
    ∷ Call.ReconciliationInputCoins ((0 ∷ 1 ∷ 40 ∷ 1 ∷ 1 ∷ 1 ∷ 5 ∷ []) ++ replicate 36 1) 1
    ∷ []

abbrev pub answers : List (Answer Value)
answers =
    refused 2
    ∷ answer [] (attempt_is (Some (attempt 41 EnsureBroadcast digest6 (hash (replicate 32 5)))))
    ∷ answer [] (written ((2 ∷ []) ++ num 42 ++ replicate 7 255 ++ (254 ∷ 3 ∷ []) ++ num 4 ++ (1 ∷ []) ++ num 40 ++ (0 ∷ []) ++ digest8 ++ (1 ∷ []) ++ replicate 32 5 ++ (0 ∷ []) ++ digest34 ++ (0 ∷ 0 ∷ 0 ∷ 2 ∷ []) ++ replicate 40 255 ++ (1 ∷ []) ++ digest8 ++ (0 ∷ 1 ∷ []) ++ replicate 8 255 ++ num 3 ++ (0 ∷ 0 ∷ []) ++ digest35 ++ (0 ∷ 0 ∷ 0 ∷ 1 ∷ 0 ∷ 2 ∷ 1 ∷ []) ++ num 100 ++ num 2 ++ (1 ∷ []) ++ num 41 ++ (0 ∷ []) ++ digest6 ++ (1 ∷ []) ++ replicate 32 5 ++ (0 ∷ []) ++ digest34 ++ (0 ∷ 0 ∷ 1 ∷ 2 ∷ []) ++ replicate 40 255 ++ (0 ∷ 0 ∷ 1 ∷ []) ++ replicate 8 255 ++ (0 ∷ 1 ∷ []) ++ num 2 ++ (1 ∷ []) ++ replicate 7 255 ++ (254 ∷ 0 ∷ [])))
    ∷ answer [] no_value
    ∷ refused 3
    ∷ answer [] no_value
    ∷ answer [] no_value
    ∷ answer [] (written (0 ∷ 0 ∷ []))
    ∷ answer [] (status_is Applied)
    ∷ refused 2
    ∷ answer [] no_value
    ∷ refused 2
    ∷ answer [] (written (0 ∷ 0 ∷ []))
    ∷ answer [] (attempt_is None)
    ∷ answer [] (status_is Applied)
    ∷ answer [] (ids_are [])
    ∷ refused 2
    ∷ refused 12
    ∷ []

abbrev pub archive : List ℕ
archive = ((2 ∷ []) ++ num 42 ++ replicate 7 255 ++ (254 ∷ 2 ∷ []) ++ num 4 ++ (0 ∷ 1 ∷ []) ++ num 40 ++ (0 ∷ []) ++ digest8 ++ (1 ∷ []) ++ replicate 32 5 ++ digest34 ++ (0 ∷ 0 ∷ 0 ∷ 2 ∷ []) ++ replicate 40 255 ++ (1 ∷ []) ++ digest8 ++ (0 ∷ 1 ∷ []) ++ replicate 8 255 ++ num 3 ++ (0 ∷ 0 ∷ []) ++ digest35 ++ (0 ∷ 0 ∷ 0 ∷ 1 ∷ 0 ∷ 2 ∷ 1 ∷ []) ++ num 100 ++ (1 ∷ 1 ∷ []) ++ num 2 ++ (0 ∷ 1 ∷ []) ++ zeros 8 ++ (2 ∷ []) ++ replicate 32 4 ++ zeros 8 ++ (2 ∷ 0 ∷ 1 ∷ []) ++ num 2 ++ (1 ∷ []) ++ replicate 7 255 ++ (254 ∷ 0 ∷ []))

pub recorded : play calls start ≡ record { answers = answers; archive = archive }
unfolding play opened zero_output zero_spend zero_bundle zero_hash zero_attempt no_attempt base_variant Fips.K Fips.H0 Fips.pad Fips.schedule Fips.round Fips.rounds Fips.plus Fips.hashed
recorded = refl
