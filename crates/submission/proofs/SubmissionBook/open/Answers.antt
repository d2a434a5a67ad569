-- The callee answers the opened book's cells, and the struct around them is what `book_of` makes.
use mathlib.Core.Path.{ap}
use Rattle.submission.specs.Book.{book_of}
use Rattle.submission.proofs.SubmissionBook.open.Goals as goal

pub returns : goal.returns
returns c = ap book_of c.open-parts.ensures
