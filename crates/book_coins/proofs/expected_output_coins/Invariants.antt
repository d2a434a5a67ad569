-- The coins laid out, with the outputs of the spends left, make the whole list; four a spend at most, so 16 cells hold them.
use Rattle.book_coins.specs.Coins.{expected_output_coins}
use Rattle.book_coins.specs.Outputs.{Laying}
use Prim.Native.Nat.{◌*◌, ◌≤◌}
use lib.ListN.{take, drop}
use Rattle.book_coins.proofs.expected_output_coins.Given as goal

abbrev pub invariant-loop-i : goal.invariant-loop-i
invariant-loop-i l = (l.coins.count ≤ 4 * l.i) × Laying (expected_output_coins l.b) l.coins (drop l.i (take l.i-end l.b.spends))
