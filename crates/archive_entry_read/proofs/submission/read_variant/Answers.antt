-- A mark, and behind a 1 the bundle with its fee.
use Rattle.archive_form.specs.Parse.{parse_variant}
use Rattle.book.specs.Zero.{base_variant}
use Rattle.codec_cursor.specs.Cursor.{reading, reads_absent}
use Rattle.archive_entry_read.proofs.submission.read_variant.Goals as goal

pub returns-then-mark-eq0 : goal.returns-then-mark-eq0
unfolding parse_variant
returns-then-mark-eq0 c = rw c.zero.ensures (reads_absent base_variant _ c.read_count-mark.ensures.reads c.if-mark-eq0.true)

pub returns : goal.returns
unfolding parse_variant
returns c = search reading
