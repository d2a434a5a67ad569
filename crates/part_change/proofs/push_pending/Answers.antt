-- The count is the queue's length, below 16, so the store appends to the queue; the rules append too, as the entry is sound.
use native.Mathlib.Omega.{arith}
use Rattle.part_lookup.specs.Normal.{pending_are}
use Rattle.part_change.specs.ChangeLaws.{enqueue_is}
use Rattle.part_change.proofs.push_pending.Goals as goal

pub offset_bounds-out-n : goal.offset_bounds-out-n
offset_bounds-out-n c = let e = (pending_are c.args.b c.requires.0).count in omega arith

pub bounds-out-n : goal.bounds-out-n
bounds-out-n c = let e = (pending_are c.args.b c.requires.0).count in omega arith

pub overflow_add-out : goal.overflow_add-out
overflow_add-out c = let e = (pending_are c.args.b c.requires.0).count in omega arith

pub returns : goal.returns
returns c = let e = (pending_are c.args.b c.requires.0).count in enqueue_is c.args.b c.requires.0 c.args.d (omega arith) c.requires.2
