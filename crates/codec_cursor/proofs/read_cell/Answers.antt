-- A length byte, and behind the test of the room a run of that length.
use Rattle.codec_bytes.specs.Reading.{has_long}
use Rattle.codec_cursor.specs.Items.{cell_refused, cell_reads}
use native.Mathlib.Omega.{arith}
use Rattle.codec_cursor.proofs.read_cell.Goals as goal

pub returns-then-not-room : goal.returns-then-not-room
returns-then-not-room c = rw c.refused.ensures (cell_refused c.read_count-len.ensures c.has-room.ensures c.if-not-room.true-raw)

pub overflow_add-at : goal.overflow_add-at
overflow_add-at c = let h = has_long _ c.args.s.now _ c.has-room.ensures c.if-not-room.false-raw in omega (arith, h)

pub copy_at-requires : goal.copy_at-requires
copy_at-requires c = record { n_in_bounds = has_long c.read_count-len.result c.args.s.now _ c.has-room.ensures c.if-not-room.false-raw; n_in_bounds_2 = omega (arith, c.read_count-len.ensures.few) }

pub returns : goal.returns
returns c = cell_reads _ c.read_count-len.ensures (has_long _ c.args.s.now _ c.has-room.ensures c.if-not-room.false-raw) (omega arith) c.copy_at.ensures
