-- Eight bytes behind the test of the room.
use Rattle.codec_bytes.specs.Reading.{has_long}
use Rattle.codec_cursor.specs.Items.{number_refused, number_reads}
use native.Mathlib.Omega.{arith}
use Rattle.codec_cursor.proofs.read_number.Goals as goal

pub returns-then-not-room : goal.returns-then-not-room
returns-then-not-room c = rw c.refused.ensures (number_refused 8 0 c.args.s.now c.args.at.now c.has-room.ensures c.if-not-room.true-raw)

pub overflow_add-at : goal.overflow_add-at
overflow_add-at c = omega (arith, has_long 8 c.args.s.now c.args.at.now c.has-room.ensures c.if-not-room.false-raw)

pub number_at-requires : goal.number_at-requires
number_at-requires c = has_long 8 c.args.s.now c.args.at.now c.has-room.ensures c.if-not-room.false-raw

pub returns : goal.returns
returns c = number_reads 8 c.args.s.now c.args.at.now (has_long 8 c.args.s.now c.args.at.now c.has-room.ensures c.if-not-room.false-raw) (omega arith) c.number_at.ensures
