use Rattle.std.proofs.Common.{arith}
use Rattle.archive_form.specs.Parse.{parse_submitted}
use Rattle.book.specs.Zero.{zero_submitted}
use Rattle.codec_cursor.specs.Cells.{filled_start, filled_more}
use Rattle.archive_read.specs.Sections.{seen_start, seen_more, mark_counts, after_seen, retained_done}
use Rattle.archive_read.proofs.section.read_retained.Goals as goal

pub loop-i-init : goal.loop-i-init
loop-i-init c = rw c.zero-items.ensures (filled_start 16 zero_submitted (parse_submitted c.args.next.0) c.args.s.now _ _, seen_start)

pub loop-i-preserved : goal.loop-i-preserved
loop-i-preserved c =
    let x = c.read_submitted-x.result in (
      filled_more c.loop-i.invariant.0 c.read_count-n.ensures.few c.loop-i-test.true (after_seen c.args.next.0 c.loop-i.invariant.1 c.read_submitted-x.ensures),
      seen_more x _ _ c.loop-i.invariant.1 (omega (arith, c.read_count-n.ensures.few)) c.loop-i.invariant.0.whole
          (mark_counts _ x.slots.active_attempt.present) (mark_counts _ x.slots.completed_attempt.present),
    )

pub returns : goal.returns
returns c = retained_done c.read_count-n.ensures c.loop-i.invariant.0 c.loop-i.invariant.1 c.loop-i-test.false
