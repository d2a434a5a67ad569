-- A rest of at most one number rises.
use Rattle.std.proofs.Common.{◌-◌, drop, length-drop, sym, ◌∙◌, arith}
use Rattle.base_lists.specs.Laws.{rising_short}
use Rattle.base_lists.proofs.is_rising.Goals as goal

pub returns : goal.returns
returns c = sym (c.loop-i.invariant ∙ rising_short (drop (c.loop-i.i - 1) c.args.s.now) (rw length-drop (omega arith)))
