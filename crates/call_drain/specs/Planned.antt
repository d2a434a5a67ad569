-- The plan of one candidate, from the lists of the book and what the drain has done so far.
use Rattle.std.specs.Prelude.{ℕ, cond, List, map, length, get_or}
use Rattle.book.specs.Model.{Book}
use Rattle.book.specs.Zero.{zero_submitted}
use Rattle.book.specs.Sound.{id_of}
use Rattle.std.specs.Prelude.{Option}
use Rattle.book.specs.declared.SubmissionId.{SubmissionId}
use Rattle.std.specs.Prelude.{None, Some}
use Rattle.book.specs.declared.PendingDelivery.{PendingDelivery}
use Rattle.rules.specs.Parts.{intent_of}
use Rattle.rules.specs.Calls.Drain.{is_one_of}
use Rattle.part_lookup.specs.Place.{place_of, place_of_id, has_intent}
use Rattle.std.specs.Prelude.{Some, None}
use Rattle.book_answers.specs.Zero.{zero_failure}
use Rattle.book_answers.specs.declared.DrainFailureCause.TheVariants.{NoRetainedState}
use Rattle.part_plan.specs.declared.PlanAction.TheVariants.{Passed, Failed}
use Rattle.part_plan.specs.declared.PlanAnswer.TheVariants.{Planned}
use Rattle.part_plan.specs.declared.SubmittedPlace.{SubmittedPlace}
use Rattle.part_plan.specs.declared.SubmissionPlanDelta.{SubmissionPlanDelta}
use Rattle.part_plan.specs.Plan.{failing, failure_at, known_plan, unknown_plan}

-- the place k of a book
abbrev pub place_on : ℕ → Book → SubmittedPlace
place_on k m = record { index = k; count = length m.submitted; next_id = m.next_id; next_token = m.next_token }

-- the submission that was found, else the other plan
abbrev pub found_plan : Book → List ℕ → ℕ → PendingDelivery → List ℕ → SubmissionPlanDelta → Option ℕ → SubmissionPlanDelta
found_plan m emitted n c f other (Some k) = known_plan (place_on k m) emitted m.retired n c f (get_or m.submitted k zero_submitted)
found_plan m emitted n c f other None = other

-- plan 1: "Without: first retained of equal intent fingerprint"
unfoldable pub unnamed_plan : Book → List ℕ → ℕ → PendingDelivery → List ℕ → SubmissionPlanDelta
unnamed_plan m emitted n c f =
    found_plan m emitted n c f (unknown_plan (place_on (length m.submitted) m) emitted (map id_of m.submitted) n c f) (place_of (has_intent f) m.submitted)

-- plan 1: "With an id: the retained one, else failure RetainedState without removal"
abbrev pub plan_by : Book → List ℕ → ℕ → PendingDelivery → List ℕ → Option SubmissionId → SubmissionPlanDelta
plan_by m emitted n c f None = unnamed_plan m emitted n c f
plan_by m emitted n c f (Some i) = found_plan m emitted n c f (failing (Planned Failed) (failure_at n NoRetainedState i f)) (place_of_id i.0 m)

-- a candidate of a submission that was removed earlier in this drain is passed over
unfoldable pub candidate_plan : Book → List ℕ → List ℕ → ℕ → PendingDelivery → SubmissionPlanDelta
candidate_plan m emitted removed n c =
    cond (is_one_of c.intent.id removed) (failing (Planned Passed) zero_failure) (plan_by m emitted n c (intent_of c.intent) c.intent.id)
