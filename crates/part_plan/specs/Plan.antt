-- Paper 01, "Drain and its plan": what is decided about one candidate, as data. `drain` has the law that carrying it out is what the
-- rules do.
use Rattle.std.specs.Prelude.{ℕ, ◌+◌, cond, not, List, eqb, ltb, length}
use Rattle.std.specs.Prelude.{Option, None, Some}
use Rattle.base_lists.specs.Lists.{elemb, push_new}
use Rattle.book.specs.declared.SubmissionId.{SubmissionId}
use Rattle.book.specs.declared.SubmissionDeliveryGoal.{SubmissionDeliveryGoal}
use Rattle.book.specs.declared.PendingDelivery.{PendingDelivery}
use Rattle.book.specs.declared.SubmittedTx.{SubmittedTx}
use Rattle.book.specs.Zero.{zero_submitted, no_slots}
use Rattle.book.specs.Sound.{readable_bundle, id_of}
use Rattle.book_answers.specs.declared.DrainFailureCause.{DrainFailureCause}
use Rattle.rules.specs.Parts.{current_fingerprint}
use Rattle.rules.specs.Rule.{tighten}
use Rattle.rules.specs.Steps.{with_entry, with_slots}
use Rattle.rules.specs.Steps.Entry.{revised, new_entry}
use Rattle.rules.specs.Steps.Slots.{issue_attempt, slots_issued, taken, handed}
use Rattle.rules.specs.Calls.Plan.{miss_of, wanted, last64}
use Rattle.book_answers.specs.Zero.{zero_drained, zero_failure}
use Rattle.book_answers.specs.declared.DrainFailureCause.TheVariants.{IdCollides, OutputsUnreadable, IdsExhausted}
use Rattle.book_answers.specs.declared.SubmissionDrainFailure.{SubmissionDrainFailure}
use Rattle.part_plan.specs.declared.PlanAction.TheVariants.{Failed, Removed, Stored, Issued}
use Rattle.part_plan.specs.declared.PlanAnswer.{PlanAnswer}
use Rattle.part_plan.specs.declared.PlanAnswer.TheVariants.{Full, Exhausted, Planned}
use Rattle.part_plan.specs.declared.SubmittedPlace.{SubmittedPlace}
use Rattle.part_plan.specs.declared.SubmissionPlanDelta.{SubmissionPlanDelta}

abbrev pub no_place : SubmittedPlace
no_place = record { index = 0; count = 0; next_id = record { 0 = 0 }; next_token = record { 0 = 0 } }

abbrev pub failing : PlanAnswer → SubmissionDrainFailure → SubmissionPlanDelta
failing k f = record { answer = k; place = no_place; tx = zero_submitted; submission = zero_drained; failure = f }

abbrev pub storing : PlanAnswer → SubmittedPlace → SubmittedTx → SubmissionPlanDelta
storing k p t = record { answer = k; place = p; tx = t; submission = zero_drained; failure = zero_failure }

abbrev pub failure_at : ℕ → DrainFailureCause → SubmissionId → List ℕ → SubmissionDrainFailure
failure_at n k i f = record { candidate_index = n; cause = k; candidate_id = i; intent_fingerprint = f }

-- the place with the next token taken
abbrev pub token_taken : SubmittedPlace → SubmittedPlace
token_taken p = record { index = p.index; count = p.count; next_id = p.next_id; next_token = record { 0 = p.next_token.0 + 1 } }

-- `issue_attempt`
unfoldable pub issue_plan : SubmittedPlace → SubmittedTx → SubmissionDeliveryGoal → SubmissionPlanDelta
issue_plan p t g = record {
  answer = Planned Issued;
  place = token_taken p;
  tx = with_slots (slots_issued (issue_attempt p.next_token.0 g (current_fingerprint t.entry))) t;
  submission = (handed p.next_token.0 g t.entry (taken t.slots));
  failure = zero_failure;
}

-- "An id is emitted once a drain"; 11: "token needed, next token 2^64 − 1"
unfoldable pub deliver_plan : SubmittedPlace → List ℕ → SubmittedTx → SubmissionDeliveryGoal → SubmissionPlanDelta
deliver_plan p emitted t g = cond (elemb (id_of t) emitted) (storing (Planned Stored) p t) (cond (eqb p.next_token.0 last64) (storing Exhausted p t) (issue_plan p t g))

-- plan 2, the candidate fits: "expiry becomes the smaller one present"
abbrev pub tightened_by : PendingDelivery → SubmittedTx → SubmittedTx
tightened_by c t = with_entry (revised (tighten c.intent.expiry)) t

unfoldable pub met_plan : SubmittedPlace → List ℕ → PendingDelivery → SubmittedTx → SubmissionPlanDelta
met_plan p emitted c t = cond (wanted c.goal t.entry) (deliver_plan p emitted (tightened_by c t) c.goal) (storing (Planned Stored) p (tightened_by c t))

-- plan 2, a miss: "that submission is removed … and retired"; 10 where that would be a 65th retirement
unfoldable pub removal_plan : List ℕ → SubmissionDrainFailure → SubmissionPlanDelta
removal_plan retired f = failing (cond (ltb 64 (length (push_new retired f.candidate_id.0))) Full (Planned Removed)) f

abbrev pub known_plan_by : SubmittedPlace → List ℕ → List ℕ → ℕ → PendingDelivery → List ℕ → SubmittedTx → Option DrainFailureCause → SubmissionPlanDelta
known_plan_by p emitted retired n c f t None = met_plan p emitted c t
known_plan_by p emitted retired n c f t (Some m) =
    removal_plan retired (failure_at n m t.entry.id f)

unfoldable pub known_plan : SubmittedPlace → List ℕ → List ℕ → ℕ → PendingDelivery → List ℕ → SubmittedTx → SubmissionPlanDelta
known_plan p emitted retired n c f t = known_plan_by p emitted retired n c f t (miss_of c.intent f t.entry)

-- plan 3: "Else retain and emit"
abbrev pub new_submitted : SubmittedPlace → PendingDelivery → SubmittedTx
new_submitted p c = record { slots = no_slots; entry = new_entry p.next_id c.intent }

abbrev pub id_taken : SubmittedPlace → SubmittedPlace
id_taken p = record { index = p.count; count = p.count + 1; next_id = record { 0 = p.next_id.0 + 1 }; next_token = p.next_token }

unfoldable pub retain_plan : SubmittedPlace → List ℕ → PendingDelivery → SubmissionPlanDelta
retain_plan p emitted c = deliver_plan (id_taken p) emitted (new_submitted p c) c.goal

-- plan 3: "next id already retained, SubmissionId; unreadable bundle, ExpectedOutputs; next id 2^64 − 1, SubmissionId"; 10 where it
-- would be a 17th submission
unfoldable pub unknown_plan : SubmittedPlace → List ℕ → List ℕ → ℕ → PendingDelivery → List ℕ → SubmissionPlanDelta
unknown_plan p emitted ids n c f =
    cond (elemb p.next_id.0 ids) (failing (Planned Failed) (failure_at n IdCollides p.next_id f))
    (cond (not (readable_bundle c.intent.bundle)) (failing (Planned Failed) (failure_at n OutputsUnreadable p.next_id f))
    (cond (eqb p.next_id.0 last64) (failing (Planned Failed) (failure_at n IdsExhausted p.next_id f))
    (cond (eqb p.count 16) (failing Full zero_failure) (retain_plan p emitted c))))
