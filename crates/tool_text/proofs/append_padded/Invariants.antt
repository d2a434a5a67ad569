-- The loop keeps: the cells from i on are the last digits, and `rest` is what is left of the number in front of them.
use Prim.Native.Nat.{◌-◌}
use Rattle.tool_text.proofs.Decimal.{Padded}
use Rattle.tool_text.proofs.append_padded.Given as goal

abbrev pub invariant-loop-i : goal.invariant-loop-i
invariant-loop-i g l = Padded l.n (g.row.K - l.i) l.rest g.row.K l.digits
