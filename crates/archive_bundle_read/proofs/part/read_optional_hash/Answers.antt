-- A mark, and behind a 1 the hash.
use Rattle.archive_form.specs.Parse.{parse_hash}
use Rattle.book.specs.Zero.{zero_hash}
use Rattle.codec_cursor.specs.Cursor.{reads_absent, reads_present, reads_then, ends}
use Rattle.archive_bundle_read.proofs.part.read_optional_hash.Goals as goal

pub returns-then-mark-eq0 : goal.returns-then-mark-eq0
unfolding parse_hash
returns-then-mark-eq0 c = rw c.zero.ensures (reads_absent zero_hash _ c.read_count-mark.ensures.reads c.if-mark-eq0.true)

pub returns : goal.returns
unfolding parse_hash
returns c = reads_present zero_hash c.read_count-mark.ensures.reads c.if-mark-eq0.false (reads_then _ c.read_hash-hash.ensures ends)
