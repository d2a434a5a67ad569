use Rattle.codec_cursor.specs.Cursor.{reading}
use Rattle.codec_cursor.proofs.read_optional_number.Goals as goal

pub returns-then-mark-eq0 : goal.returns-then-mark-eq0
returns-then-mark-eq0 c = search reading

pub returns : goal.returns
returns c = search reading
