-- No value is promised: the place grows by at least 1 a turn, so the loop ends, and the tests before the read keep it in bounds.
use Prim.Native.Nat.{◌-◌}
use Rattle.tool_archive_items.proofs.order.item_at.Given as goal

abbrev pub decreases-loop-at : goal.decreases-loop-at
decreases-loop-at l = l.place - l.at
