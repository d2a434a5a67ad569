use mathlib.Core.Path.{◌≡◌}
use native.Mathlib.Omega.{arith}
use lib.ListN.{length-set}
use lib.Seq.{take_all}
use Rattle.base_sha256.proofs.Laws.{next_more}
use Rattle.base_sha256.proofs.schedule.Goals as goal

pub loop-t-preserved : goal.loop-t-preserved
loop-t-preserved c = (simp length-set (omega arith), next_more _ _ _ _ (omega arith) c.loop-t.invariant.1 (omega arith) c.next_at.ensures)

pub returns : goal.returns
returns c = let e : c.loop-t.t ≡ 64 = omega arith in rw (← take_all 64 c.loop-t.w (omega arith)) (rw e at c.loop-t.invariant.1)
