-- The bytes are passed behind the test of the room.
use native.Mathlib.Omega.{arith}
use mathlib.Core.List.{[]}
use Rattle.codec_bytes.specs.Reading.{has_long}
use Rattle.codec_cursor.specs.Items.{run_refused}
use Rattle.archive_walk.specs.Skips.{skips, run_passed}
use Rattle.archive_walk.proofs.skip.skip.Goals as goal

pub returns-then-not-room : goal.returns-then-not-room
returns-then-not-room c = rw c.refused.ensures (skips (run_refused c.args.n [] c.args.s.now c.args.at.now c.has-room.ensures c.if-not-room.true-raw))

pub overflow_add-at : goal.overflow_add-at
overflow_add-at c =
    omega (
      arith,
      has_long c.args.n c.args.s.now c.args.at.now c.has-room.ensures c.if-not-room.false-raw,
    )

pub returns : goal.returns
returns c = run_passed c.args.n c.args.s.now c.args.at.now (has_long c.args.n c.args.s.now c.args.at.now c.has-room.ensures c.if-not-room.false-raw) (omega arith)
