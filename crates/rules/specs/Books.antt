-- What a call, and a list of calls, makes of a book and answers.
use Rattle.std.specs.Prelude.{ℕ}
use mathlib.Core.List.{List, [], ◌∷◌}
use Rattle.book.specs.Model.{Book}
use Rattle.rules.specs.Call.{Call, Value}
use Rattle.rules.specs.Calls.{rules}
use Rattle.book_answers.specs.declared.DrainedSubmission.{DrainedSubmission}
use Rattle.rules.specs.Rule.{full, run, Answer, answered, left, issued_by}
use Rattle.rules.specs.Steps.{on_book, run_book}

module _ (encode : Book → List ℕ) where
  -- one call: the book left, the answer, and what was issued (also by a drain that ended with 11)
  unfoldable pub call_book : Call → Book → Book
  unfolding rules run on_book full
  call_book c b = left b (run_book (rules encode c) b)

  unfoldable pub answer_book : Call → Book → Answer Value
  unfolding rules run on_book full
  answer_book c b = answered (run_book (rules encode c) b)

  unfoldable pub issued_book : Call → Book → List DrainedSubmission
  unfolding rules run on_book full
  issued_book c b = issued_by (run_book (rules encode c) b)

  -- a list of calls
  unfoldable pub book_after : List Call → Book → Book
  unfolding call_book
  book_after [] b = b
  book_after (c ∷ cs) b = book_after cs (call_book c b)

  unfoldable pub answers_book : List Call → Book → List (Answer Value)
  unfolding call_book answer_book
  answers_book [] b = []
  answers_book (c ∷ cs) b = answer_book c b ∷ answers_book cs (call_book c b)
