-- Made by `oracle theorems --out crates`.
-- List 9719 of the seed, with what the Rust answered.
use Rattle.base_sha256.specs.Fips
use Rattle.std.specs.Prelude.{true, false, List, [], ◌∷◌, ◌++◌, ◌≡◌, refl, ℕ, replicate}
use Rattle.std.specs.Prelude.{Some}
use Rattle.book.specs.Model.{Book}
use Rattle.book.specs.Zero.{zeros, zero_output, zero_spend, zero_bundle, zero_hash, zero_attempt, no_attempt, base_variant}
use Rattle.std.specs.Prelude.{None}
use Rattle.book.specs.declared.FeeResolution.TheVariants.{Unresolved, Attached}
use Rattle.book.specs.declared.SubmissionChainTerminality.TheVariants.{Active, Landed}
use Rattle.book.specs.declared.SubmissionDeliveryGoal.TheVariants.{EnsureBroadcast, FeeUpgrade}
use Rattle.book.specs.declared.DeliveryTrigger.TheVariants.{Protocol, Rollback}
use Rattle.book_answers.specs.declared.FeeSourceDisposition.TheVariants as disposition
use Rattle.book_answers.specs.declared.SubmissionAttemptRelationship.TheVariants.{NewerFeeBearing}
use Rattle.book_answers.specs.declared.SubmissionAttemptStatus.TheVariants.{Applied}
use Rattle.book_answers.specs.declared.SubmissionFeeSource.TheVariants as source
use Rattle.rules.specs.Call.{Call, Value, no_value, failures, finalized, status_is}
use Rattle.rules.specs.Rule.{Answer, answer, refused}
use Rattle.rules.specs.Opened.{opened}
use Rattle.rules_recorded_lists.specs.Play.{play}
use Rattle.rules_recorded_lists.specs.Pieces.{num, at, attach, delivery, hash, attempt, held, submission, book_of, drained, finalized_as}
use Rattle.rules_recorded_lists.specs.Shared.{digest8, digest9, digest15, bundle2}

abbrev pub start : Book
start = book_of 40 18446744073709551615 (
    submission 3 (held (attempt 38 EnsureBroadcast digest8 zero_hash)) (held (attempt 39 FeeUpgrade digest8 zero_hash)) digest9 zero_bundle base_variant Unresolved (attach (replicate 32 255) 18446744073709551615) zero_hash Active None
    ∷ submission 4 no_attempt (held (attempt 37 EnsureBroadcast digest15 (hash digest15))) (replicate 32 5) bundle2 base_variant Attached (attach (replicate 32 4) 0) zero_hash Landed None
    ∷ [])
    ((delivery None zero_bundle None (attach (replicate 32 255) 18446744073709551615) Rollback FeeUpgrade) ∷ []) [] (at 18446744073709551615) (3 ∷ [])

abbrev pub calls : List Call
calls =
    Call.Drain
    ∷ Call.AcknowledgeAttempt 18446744073709551615
    ∷ Call.AcknowledgeAttempt 40
    ∷ Call.QueueFeeReadiness
    ∷ Call.RelinquishCompletedAttempt 39
    ∷ Call.QueueRetainedDelivery 4 Rollback EnsureBroadcast
    ∷ Call.QueueRetainedDelivery 3 Protocol FeeUpgrade
    ∷ Call.FinalizeAttempt 40 source.Joined zero_bundle
    ∷ Call.EmitRetirement 3
    ∷ Call.RelinquishCompletedAttempt 37
    ∷ []

abbrev pub answers : List (Answer Value)
answers =
    answer (drained 3 40 (Some 38) NewerFeeBearing zero_bundle None (attach (replicate 32 255) 18446744073709551615) ∷ []) (failures [])
    ∷ refused 4
    ∷ refused 6
    ∷ answer [] no_value
    ∷ answer [] (status_is Applied)
    ∷ answer [] no_value
    ∷ answer [] no_value
    ∷ answer [] (finalized (Some (finalized_as zero_bundle 18446744073709551615 false disposition.Attached digest8 true)))
    ∷ answer [] no_value
    ∷ answer [] (status_is Applied)
    ∷ []

abbrev pub archive : List ℕ
archive = ((2 ∷ []) ++ num 41 ++ replicate 8 255 ++ (2 ∷ []) ++ num 3 ++ (1 ∷ []) ++ num 40 ++ (1 ∷ []) ++ digest8 ++ (1 ∷ []) ++ digest8 ++ (1 ∷ []) ++ num 39 ++ (1 ∷ []) ++ digest8 ++ (0 ∷ []) ++ digest9 ++ (0 ∷ 1 ∷ 0 ∷ []) ++ replicate 8 255 ++ (2 ∷ 2 ∷ []) ++ replicate 40 255 ++ zeros 10 ++ (4 ∷ 0 ∷ 1 ∷ []) ++ num 37 ++ (0 ∷ []) ++ digest15 ++ (1 ∷ []) ++ digest15 ++ replicate 32 5 ++ (1 ∷ 1 ∷ 7 ∷ []) ++ zeros 32 ++ (1 ∷ 0 ∷ 0 ∷ 2 ∷ 2 ∷ []) ++ replicate 32 4 ++ zeros 9 ++ (2 ∷ 0 ∷ 0 ∷ 1 ∷ []) ++ num 3 ++ (1 ∷ []) ++ replicate 8 255 ++ (1 ∷ []) ++ num 3)

pub recorded : play calls start ≡ record { answers = answers; archive = archive }
unfolding play opened zero_output zero_spend zero_bundle zero_hash zero_attempt no_attempt base_variant Fips.K Fips.H0 Fips.pad Fips.schedule Fips.round Fips.rounds Fips.plus Fips.hashed
recorded = refl
