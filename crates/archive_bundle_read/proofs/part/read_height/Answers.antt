use Rattle.std.proofs.Common.{rules}
use Rattle.codec_cursor.specs.Cursor.{reads_number_of}
use Rattle.archive_form.specs.Parse.{parse_height}
use Rattle.archive_bundle_read.proofs.part.read_height.Goals as goal

pub returns : goal.returns
unfolding parse_height
returns c = reads_number_of _ c.read_optional_number.ensures (search rules)
