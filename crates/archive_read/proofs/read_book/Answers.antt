-- The sections one behind the other.
use Rattle.archive_read.specs.Archive.{book_reads}
use Rattle.archive_read.proofs.read_book.Goals as goal

pub returns : goal.returns
returns c = book_reads c.read_numbers-n.ensures c.read_retained-t.ensures c.read_queue-q.ensures c.read_retirements-retired_submission_ids.ensures c.read_height-rollback_height.ensures c.read_replays-replayed_submission_ids.ensures
