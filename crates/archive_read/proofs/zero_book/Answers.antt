-- Every cell is zero.
use Rattle.book.specs.Model.{back}
use Rattle.archive_read.specs.Archive.{zero_book}
use Rattle.archive_read.proofs.zero_book.Goals as goal

pub returns : goal.returns
unfolding zero_book back
returns c = rw (c.zero-t.ensures, c.zero-d.ensures)
