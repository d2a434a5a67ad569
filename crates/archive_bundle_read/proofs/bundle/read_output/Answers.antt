-- A hash, and an amount behind it.
use Rattle.archive_form.specs.Parse.{parse_output}
use Rattle.codec_cursor.specs.Cursor.{reading}
use Rattle.archive_bundle_read.proofs.bundle.read_output.Goals as goal

pub returns : goal.returns
unfolding parse_output
returns c = search reading
