-- A number that must be fresh.
use Rattle.codec_cursor.specs.Cursor.{reads_checked}
use Rattle.archive_entry_read.proofs.attempt.read_token.Goals as goal

pub returns : goal.returns
returns c = rw c.pass.ensures (reads_checked _ c.read_number-n.ensures c.fresh_token-fresh.ensures)
