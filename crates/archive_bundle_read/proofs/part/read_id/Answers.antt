use Rattle.std.proofs.Common.{rules}
use Rattle.codec_cursor.specs.Cursor.{reads_number_of}
use Rattle.archive_form.specs.Parse.{parse_id}
use Rattle.archive_bundle_read.proofs.part.read_id.Goals as goal

pub returns : goal.returns
unfolding parse_id
returns c = reads_number_of _ c.read_optional_number.ensures (search rules)
