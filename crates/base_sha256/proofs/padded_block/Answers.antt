-- The bytes of the message that lie in the block are copied in front of what is right already (`block_is`).
use Prim.Native.Nat.{min, ◌-◌}
use native.Mathlib.Omega.{arith}
use lib.ListN.{length, drop, length-drop}
use lib.Seq.{take_all}
use Rattle.base_sha256.proofs.Laws.{padded_length, padded_front, block_is}
use Rattle.base_sha256.proofs.padded_block.Goals as goal

pub returns : goal.returns
returns c =
    let s = c.args.s.now in
    let n = min c.args.at (length s) in
    rw (c.copy_from_slice.ensures.after, c.min.ensures, take_all (length s - n) (drop n s) (simp length-drop (omega arith)))
    (block_is _ s _ _ _ (rw padded_length (omega arith)) c.marked_block-b.ensures c.count_in_block-m.ensures (λ k i. padded_front _ _ _ k i))
