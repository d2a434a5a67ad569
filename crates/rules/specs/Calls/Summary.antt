-- `summary`, a query of ours: the numbers of the book, and how many submissions are retained, queued, retired and replayed; nothing changes.
use Rattle.std.specs.Prelude.{length}
use Rattle.book.specs.Model.{Book}
use Rattle.book_answers.specs.declared.BookSummary.{BookSummary}
use Rattle.rules.specs.Rule.{done, Rule, ◌>>=◌, book}

unfoldable pub summary_of : Book → BookSummary
summary_of b = record {
  next_delivery_attempt_token = b.next_token;
  next_submission_id = b.next_id;
  submitted_count = length b.submitted;
  pending_count = length b.pending;
  retired_count = length b.retired;
  replayed_count = length b.replayed;
  rollback_height = b.rollback;
}

unfoldable pub summary : Rule BookSummary
unfolding summary_of
summary = do
  b ← book
  done (summary_of b)
