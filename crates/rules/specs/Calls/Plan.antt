-- Paper 01, "Drain and its plan": what a drain remembers, and the tests of `plan_pending_submission` on a retained submission.
use Rattle.std.specs.Prelude.{ℕ, Bool, cond, not, ◌&&◌, List, [], ◌∷◌, ◌++◌}
use Rattle.std.specs.Prelude.{Option, None, Some}
use Rattle.base_lists.specs.Bytes.{eqs}
use Rattle.book.specs.declared.SubmittedEntry.{SubmittedEntry}
use Rattle.book.specs.declared.PendingSubmissionIntent.{PendingSubmissionIntent}
use Rattle.book.specs.declared.SubmissionDeliveryGoal.{SubmissionDeliveryGoal}
use Rattle.book.specs.Zero.{is_ensure_broadcast}
use Rattle.book_answers.specs.declared.DrainFailureCause.{DrainFailureCause}
use Rattle.book_answers.specs.declared.DrainFailureCause.TheVariants.{FeeIntentDiffers, InvalidRetainedState, IntentDiffers}
use Rattle.book_answers.specs.declared.SubmissionDrainFailure.{SubmissionDrainFailure}
use Rattle.rules.specs.Parts.{current_acknowledged, fee_unresolved, active_entry, same_fee_intent, validate}

-- what a drain remembers: the ids that were emitted, those that were removed, and the failures
pub record Memory : Type 0 where
  pub emitted : List ℕ
  pub removed : List ℕ
  pub failed : List SubmissionDrainFailure

abbrev pub blank : Memory
blank = record { emitted = []; removed = []; failed = [] }

abbrev pub with_emitted : ℕ → Memory → Memory
with_emitted i a = record { emitted = a.emitted ++ i ∷ []; removed = a.removed; failed = a.failed }

abbrev pub with_removed : ℕ → Memory → Memory
with_removed i a = record { emitted = a.emitted; removed = a.removed ++ i ∷ []; failed = a.failed }

-- the candidate at n, of intent fingerprint f and candidate id i, fails
abbrev pub with_failure : ℕ → DrainFailureCause → ℕ → List ℕ → Memory → Memory
with_failure n c i f a = record {
  emitted = a.emitted;
  removed = a.removed;
  failed = a.failed ++ record { candidate_index = n; cause = c; candidate_id = record { 0 = i }; intent_fingerprint = f } ∷ [];
}

abbrev pub last64 : ℕ
last64 = 18446744073709551615

-- plan 2: "fee intents equal; `validate` passes; fingerprints equal"
unfoldable pub miss_of : PendingSubmissionIntent → List ℕ → SubmittedEntry → Option DrainFailureCause
unfolding same_fee_intent validate
miss_of p f e =
    cond (same_fee_intent p.fee_intent e.intent.fee_intent)
    (cond (validate e) (cond (eqs e.intent.intent_fingerprint f) None (Some IntentDiffers)) (Some InvalidRetainedState))
    (Some FeeIntentDiffers)

-- "emit if Active and, by goal, current variant unacknowledged (EnsureBroadcast) or fee unresolved (FeeUpgrade)"
unfoldable pub wanted : SubmissionDeliveryGoal → SubmittedEntry → Bool
unfolding current_acknowledged
wanted g e = active_entry e && cond (is_ensure_broadcast g) (not (current_acknowledged e)) (fee_unresolved e)
