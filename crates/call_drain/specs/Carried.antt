-- What carrying out a plan makes of the book: of its cells, of its lists, and of the rules' outcome.
use Rattle.std.specs.Prelude.{ℕ, ◌≤◌, ◌<◌, List, [], ◌∷◌, ◌++◌, ◌≡◌, length, set}
use Rattle.base_lists.specs.Lists.{push_new}
use Rattle.book.specs.Model.{Book, view, back}
use Rattle.book.specs.Sound.{id_of}
use Rattle.book.specs.declared.BookData.{BookData}
use Rattle.book.specs.declared.SubmittedTx.{SubmittedTx}
use Rattle.book_answers.specs.declared.DrainedSubmission.{DrainedSubmission}
use Rattle.rules.specs.Rule.{retire, Outcome, ended, undone, stopped}
use Rattle.rules.specs.Steps.{note_book, remove_book}
use Rattle.rules.specs.Calls.Plan.{Memory, with_emitted, with_removed}
use Rattle.book_answers.specs.declared.SubmissionDrainFailure.{SubmissionDrainFailure}
use Rattle.part_plan.specs.declared.PlanAction.{PlanAction}
use Rattle.part_plan.specs.declared.PlanAction.TheVariants.{Passed, Failed, Removed, Stored, Issued}
use Rattle.part_plan.specs.declared.PlanAnswer.{PlanAnswer}
use Rattle.part_plan.specs.declared.PlanAnswer.TheVariants.{Full, Exhausted, Planned}
use Rattle.part_plan.specs.declared.SubmittedPlace.{SubmittedPlace}
use Rattle.part_plan.specs.declared.SubmissionPlanDelta.{SubmissionPlanDelta}
use Rattle.part_change.specs.Parts.{put_submitted}
use Rattle.call_drain.specs.ListLaws.{put_at}
use Rattle.book.specs.declared.refusal.Refusal.TheVariants as refusals

-- ---- the lists
-- t in the place p, and the numbers with it
abbrev pub placed : SubmittedPlace → SubmittedTx → Book → Book
placed p t m = record {
  next_token = p.next_token;
  next_id = p.next_id;
  submitted = put_at p.index t m.submitted;
  pending = m.pending;
  retired = m.retired;
  rollback = m.rollback;
  replayed = m.replayed;
}

-- the submission goes, and is retired
abbrev pub withdrawn : ℕ → Book → Book
withdrawn i m = note_book (retire i) (remove_book i m)

abbrev pub with_failure_of : SubmissionDrainFailure → Memory → Memory
with_failure_of f a = record { emitted = a.emitted; removed = a.removed; failed = a.failed ++ f ∷ [] }

abbrev pub book_by : PlanAction → SubmissionPlanDelta → Book → Book
book_by Passed p m = m
book_by Failed p m = m
book_by Removed p m = withdrawn p.failure.candidate_id.0 m
book_by Stored p m = placed p.place p.tx m
book_by Issued p m = placed p.place p.tx m

abbrev pub memory_by : PlanAction → SubmissionPlanDelta → Memory → Memory
memory_by Passed p a = a
memory_by Failed p a = with_failure_of p.failure a
memory_by Removed p a = with_failure_of p.failure (with_removed p.failure.candidate_id.0 a)
memory_by Stored p a = a
memory_by Issued p a = with_emitted (id_of p.tx) a

abbrev pub drained_in : PlanAction → SubmissionPlanDelta → List DrainedSubmission
drained_in Passed p = []
drained_in Failed p = []
drained_in Removed p = []
drained_in Stored p = []
drained_in Issued p = p.submission ∷ []

-- what the rules come to where the plan is carried out: 10, nothing is left; 11, the submission is stored
abbrev pub planned_outcome : PlanAnswer → SubmissionPlanDelta → Memory → Book → Outcome Book Memory
planned_outcome Full p a m = undone refusals.Full
planned_outcome Exhausted p a m = stopped (placed p.place p.tx m) [] refusals.NoToken
planned_outcome (Planned k) p a m = ended (book_by k p m) (drained_in k p) (memory_by k p a)

-- ---- the cells
pub record InPlace (p : SubmittedPlace) (m : Book) : Type 0 where
  pub within : p.index ≤ length m.submitted
  pub below : p.index < 16
  pub counts : (t : SubmittedTx) → p.count ≡ length (put_at p.index t m.submitted)

-- what a plan asks of the book on which it is carried out
abbrev pub FitsBy : PlanAction → SubmissionPlanDelta → Book → Type 0
FitsBy Passed p m = Unit {0}
FitsBy Failed p m = Unit {0}
FitsBy Removed p m = length (push_new m.retired p.failure.candidate_id.0) ≤ 64
FitsBy Stored p m = InPlace p.place m
FitsBy Issued p m = InPlace p.place m

abbrev pub AnswerFits : PlanAnswer → SubmissionPlanDelta → Book → Type 0
AnswerFits Full p m = Unit {0}
AnswerFits Exhausted p m = InPlace p.place m
AnswerFits (Planned k) p m = FitsBy k p m

abbrev pub stored_in : SubmissionPlanDelta → BookData → BookData
stored_in p b = put_submitted p.place.next_token p.place.next_id p.place.count (set b.submitted p.place.index p.tx) b

abbrev pub carried_by : PlanAction → SubmissionPlanDelta → BookData → BookData
carried_by Passed p b = b
carried_by Failed p b = b
carried_by Removed p b = back (withdrawn p.failure.candidate_id.0 (view b))
carried_by Stored p b = stored_in p b
carried_by Issued p b = stored_in p b
