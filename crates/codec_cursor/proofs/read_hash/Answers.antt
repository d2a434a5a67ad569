-- A run of 32 bytes behind the test of the room.
use Rattle.codec_bytes.specs.Reading.{has_long}
use Rattle.codec_cursor.specs.Items.{run_refused, run_reads}
use native.Mathlib.Omega.{arith}
use borrow.Author.Rules.{rules}
use Rattle.codec_cursor.proofs.read_hash.Goals as goal

pub returns-then-not-room : goal.returns-then-not-room
returns-then-not-room c = rw c.refused.ensures (run_refused 32 _ c.args.s.now c.args.at.now c.has-room.ensures c.if-not-room.true-raw)

pub overflow_add-at : goal.overflow_add-at
overflow_add-at c = omega (arith, has_long 32 c.args.s.now c.args.at.now c.has-room.ensures c.if-not-room.false-raw)

pub copy_at-requires : goal.copy_at-requires
copy_at-requires c = record { n_in_bounds = has_long 32 c.args.s.now c.args.at.now c.has-room.ensures c.if-not-room.false-raw; n_in_bounds_2 = search rules }

pub returns : goal.returns
returns c = run_reads 32 c.args.s.now _ c.args.at.now (has_long 32 c.args.s.now c.args.at.now c.has-room.ensures c.if-not-room.false-raw) (omega arith) c.copy_at.ensures
