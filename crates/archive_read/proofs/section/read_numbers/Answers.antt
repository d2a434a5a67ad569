-- The count 2, and the two numbers behind it.
use Rattle.archive_form.specs.Parse.{parse_numbers}
use Rattle.archive_read.specs.Sections.{two_reads}
use Rattle.codec_cursor.specs.Cursor.{reads_then, ends}
use Rattle.archive_read.proofs.section.read_numbers.Goals as goal

pub returns : goal.returns
unfolding parse_numbers
returns c = reads_then _ (two_reads c.read_count-k.ensures.reads c.pass.ensures) (reads_then _ c.read_number-token.ensures (reads_then _ c.read_number-id.ensures ends))
