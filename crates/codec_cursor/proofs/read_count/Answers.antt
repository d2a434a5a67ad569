-- One byte behind the test of the room, and the test of the limit.
use Rattle.codec_bytes.specs.Reading.{has_long}
use Rattle.codec_cursor.specs.Items.{count_short, count_over, count_got}
use native.Mathlib.Omega.{arith}
use Rattle.codec_cursor.proofs.read_count.Goals as goal

pub returns-then-not-room : goal.returns-then-not-room
returns-then-not-room c = rw c.refused.ensures (count_short c.args.most c.args.s.now c.args.at.now c.has-room.ensures c.if-not-room.true-raw)

pub bounds-s-start : goal.bounds-s-start
bounds-s-start c = omega (arith, has_long 1 c.args.s.now c.args.at.now c.has-room.ensures c.if-not-room.false-raw)

pub returns-then-most-n : goal.returns-then-most-n
returns-then-most-n c = rw c.refused-then-most-n.ensures (count_over c.args.most c.args.s.now c.args.at.now (has_long 1 c.args.s.now c.args.at.now c.has-room.ensures c.if-not-room.false-raw) c.if-most-n.true)

pub overflow_add-at : goal.overflow_add-at
overflow_add-at c =
    omega (
      arith,
      has_long 1 c.args.s.now c.args.at.now c.has-room.ensures
          c.if-not-room.false-raw,
    )

pub returns : goal.returns
returns c = count_got c.args.most c.args.s.now c.args.at.now (has_long 1 c.args.s.now c.args.at.now c.has-room.ensures c.if-not-room.false-raw) (omega arith) c.if-most-n.false
