-- What the reply of a drain says: what is handed out and the failures, or the refusal, and the book that is left.
use Rattle.std.specs.Prelude.{List, [], length, Result, Ok, Err}
use Rattle.base_lists.specs.Lists.{cells}
use Rattle.book.specs.Model.{Book}
use Rattle.book.specs.declared.BookData.{BookData}
use Rattle.book.specs.declared.refusal.Refusal.{Refusal}
use Rattle.book_answers.specs.declared.DrainedSubmission.{DrainedSubmission}
use Rattle.book_answers.specs.declared.SubmissionDrainFailure.{SubmissionDrainFailure}
use Rattle.rules.specs.Rule.{Outcome, ended, undone, stopped}
use Rattle.part_replies.specs.Reply.{book_left}
use Rattle.part_replies.specs.declared.Reply.{Reply}
use Rattle.book_answers.specs.Zero.{zero_drained, zero_failure}
use Rattle.part_drain_answers.specs.declared.Drained.{Drained}

-- the lists in cells
abbrev pub drained_of : List DrainedSubmission → List SubmissionDrainFailure → Drained
drained_of xs fs = record {
  submission_count = length xs;
  submissions = cells 16 zero_drained xs;
  failure_count = length fs;
  failures = cells 16 zero_failure fs;
}

-- nothing beside a refusal
abbrev pub drained_by : Outcome Book (List SubmissionDrainFailure) → Result Drained Refusal
drained_by (ended m xs v) = Ok (drained_of xs v)
drained_by (undone n) = Err n
drained_by (stopped m xs n) = Err n

abbrev pub drain_reply : BookData → Outcome Book (List SubmissionDrainFailure) → Reply Drained BookData
drain_reply b o = record { answer = drained_by o; book = book_left b o }
