-- The loop keeps: the rest is distinct exactly if the whole is; `contains` on the numbers behind `i` decides each step.
use Rattle.std.proofs.Common.{◌≡◌, drop}
use Rattle.base_lists.specs.Lists.{distinctb}
use Rattle.base_lists.proofs.distinct.Given as goal

abbrev pub invariant-loop-i : goal.invariant-loop-i
invariant-loop-i l = distinctb l.s ≡ distinctb (drop l.i l.s)
