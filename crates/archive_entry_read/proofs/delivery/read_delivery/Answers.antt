-- The parts of a queue entry one behind the other.
use Rattle.archive_form.specs.Parse.{parse_delivery}
use Rattle.codec_cursor.specs.Cursor.{reading}
use Rattle.archive_entry_read.proofs.delivery.read_delivery.Goals as goal

pub returns : goal.returns
unfolding parse_delivery
returns c = search reading depth 10
