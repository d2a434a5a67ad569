-- The loop keeps: the list rises exactly if what is left of it from `i - 1` on does.
use Rattle.std.proofs.Common.{◌≡◌, ◌-◌, drop}
use Rattle.base_lists.specs.Lists.{risingb}
use Rattle.base_lists.proofs.is_rising.Given as goal

abbrev pub invariant-loop-i : goal.invariant-loop-i
invariant-loop-i l = risingb l.s ≡ risingb (drop (l.i - 1) l.s)
