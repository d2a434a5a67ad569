-- What the answer of a drain hands out, and that it names the predecessors that the rules say.
use Rattle.std.specs.Prelude.{ℕ, List, [], ◌≡◌, refl, take, Result, Ok, Err}
use Rattle.std.proofs.Common.{ap, ◌∙◌}
use Rattle.book.specs.Model.{Book}
use Rattle.archive_form.specs.Encode.{encode_model}
use Rattle.rules.specs.Books.{issued_book, book_after}
use Rattle.rules.specs.Call.{Call}
use Rattle.rules.specs.Calls.{rules}
use Rattle.rules.specs.Opened.{opened}
use Rattle.rules.specs.Rule.{issued_by}
use Rattle.rules.specs.Steps.{run_book}
use Rattle.book_answers.specs.declared.DrainedSubmission.{DrainedSubmission}
use Rattle.book.specs.declared.refusal.Refusal.{Refusal}
use Rattle.part_drain_answers.specs.declared.Drained.{Drained}
use Rattle.part_replies.specs.declared.Reply.{Reply}
use Rattle.submission.specs.declared.SubmissionBook.{SubmissionBook}
use Rattle.submission.specs.Book.{outcome}
use Rattle.submission.specs.Calls.{after, opened_book, outcome_after}

-- the submissions in the answer; none in a refusal
abbrev pub submissions_in : Result Drained Refusal → List DrainedSubmission
submissions_in (Ok d) = take d.submission_count d.submissions
submissions_in (Err n) = []

abbrev pub handed_out : Reply Drained SubmissionBook → List DrainedSubmission
handed_out r = submissions_in r.answer

-- what a call issues on the program's book is what the rules' book says
issued_is : (c : Call) (b : Book) → issued_by (run_book (rules encode_model c) b) ≡ issued_book encode_model c b
unfolding issued_book
issued_is c b = refl

pub issued_by_lem : (token id : ℕ) (before : List Call) (c : Call)
    → issued_by (outcome (after before (opened_book token id)) c) ≡ issued_book encode_model c (book_after encode_model before (opened token id))
issued_by_lem token id before c =
    ap issued_by (outcome_after token id before c)
    ∙ issued_is c (book_after encode_model before (opened token id))
