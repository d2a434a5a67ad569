use native.Mathlib.Omega.{arith}
use Rattle.archive_walk.specs.Sections.{queue_start, queue_more, queue_walked}
use Rattle.archive_walk.proofs.section.walk_queue.Goals as goal

pub loop-i-init : goal.loop-i-init
loop-i-init c = queue_start c.args.s.now _ _

pub loop-i-preserved : goal.loop-i-preserved
loop-i-preserved c = queue_more c.loop-i.invariant (λ j. omega (arith, c.shared_slice_known-1.given j)) c.read_count-n.ensures.few c.loop-i-test.true c.skip_delivery.ensures

pub returns : goal.returns
returns c = queue_walked (λ j. omega (arith, c.shared_slice_known-1.given j)) c.read_count-n.ensures c.loop-i.invariant c.loop-i-test.false
