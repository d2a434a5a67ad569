use Rattle.std.proofs.Common.{arith}
use Rattle.archive_read.specs.Sections.{mark_counts}
use Rattle.archive_walk.specs.Sections.{retained_start, retained_more, retained_walked}
use Rattle.archive_walk.proofs.section.walk_retained.Goals as goal

pub loop-i-init : goal.loop-i-init
loop-i-init c = retained_start c.args.next.0 c.args.s.now _ _

pub loop-i-preserved : goal.loop-i-preserved
loop-i-preserved c =
    let x = c.walk_submitted-x.result in
    retained_more c.loop-i.invariant (λ j. omega (arith, c.shared_slice_known-1.given j)) c.read_count-n.ensures.few c.loop-i-test.true c.walk_submitted-x.ensures
    (mark_counts _ x.slots.active_attempt.present) (mark_counts _ x.slots.completed_attempt.present)

pub returns : goal.returns
returns c = retained_walked (λ j. omega (arith, c.shared_slice_known-1.given j)) c.read_count-n.ensures c.loop-i.invariant c.loop-i-test.false
