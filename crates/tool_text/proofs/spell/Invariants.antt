-- The loop keeps: the digits of `rest`, which `i` cells hold, and behind them the cells from `i` on spell the number.
use Rattle.tool_text.proofs.Decimal.{Spelt}
use Rattle.tool_text.proofs.spell.Given as goal

abbrev pub invariant-loop-rest : goal.invariant-loop-rest
invariant-loop-rest l = Spelt l.n l.i l.rest l.a

abbrev pub decreases-loop-rest : goal.decreases-loop-rest
decreases-loop-rest l = l.rest
