-- A mark, and behind a 1 the attempt's parts.
use Rattle.archive_form.specs.Parse.{parse_slot}
use Rattle.book.specs.Zero.{no_attempt}
use Rattle.codec_cursor.specs.Cursor.{reading, reads_absent}
use Rattle.archive_entry_read.proofs.attempt.read_slot.Goals as goal

pub returns-then-mark-eq0 : goal.returns-then-mark-eq0
unfolding parse_slot
returns-then-mark-eq0 c = rw c.zero.ensures (reads_absent no_attempt _ c.read_count-mark.ensures.reads c.if-mark-eq0.true)

pub returns : goal.returns
unfolding parse_slot
returns c = search reading depth 8
