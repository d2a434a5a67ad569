use native.Mathlib.Omega.{arith}
use Rattle.std.proofs.Common.{◌∙◌}
use Rattle.part_lookup.specs.Normal.{sound_normal}
use Rattle.part_sound_laws.specs.Holds.{holds_normal}
use Rattle.call_drain.specs.Loop.{starts, running_room, ready, planned_fits, store_below, turned, full_over, token_over, ends, queue_step, queue_end, queue_count}
use Rattle.call_drain.proofs.drain_sound.Goals as goal

pub clear_pending-book-requires : goal.clear_pending-book-requires
clear_pending-book-requires c = sound_normal c.args.b.parts c.args.b.sound

pub loop-i-init : goal.loop-i-init
loop-i-init c = (queue_count c.args.b.parts c.args.b.sound, starts c.args.b.parts c.args.b.sound c.clear_pending-book.ensures c.no_answers-answers.ensures)

pub plan_pending_submission-p-requires : goal.plan_pending_submission-p-requires
plan_pending_submission-p-requires c = ready c.loop-i.invariant.1 (omega (arith, c.loop-i-test.true, c.loop-i.invariant.0))

pub returns-in-Full : goal.returns-in-Full
returns-in-Full c =
    let s = queue_step c.args.b.parts c.args.b.sound c.loop-i.i _ c.loop-i-test.true in
    c.refused.ensures ∙ full_over c.loop-i.invariant.1 _ s c.plan_pending_submission-p.result c.plan_pending_submission-p.ensures c.in-Full.is

pub store-requires : goal.store-requires
store-requires c =
    let s = queue_step c.args.b.parts c.args.b.sound c.loop-i.i _ c.loop-i-test.true in
    store_below c.loop-i.invariant.1 _ s c.plan_pending_submission-p.result c.plan_pending_submission-p.ensures c.in-Exhausted.is

pub returns-in-Exhausted : goal.returns-in-Exhausted
returns-in-Exhausted c =
    let s = queue_step c.args.b.parts c.args.b.sound c.loop-i.i _ c.loop-i-test.true in
    c.refused-in-Exhausted.ensures ∙ rw c.store.ensures (token_over c.loop-i.invariant.1 _ s c.plan_pending_submission-p.result c.plan_pending_submission-p.ensures c.in-Exhausted.is)

pub add_answer-requires : goal.add_answer-requires
add_answer-requires c = running_room c.loop-i.invariant.1 (omega (arith, c.loop-i-test.true, c.loop-i.invariant.0))

pub carry_out-requires : goal.carry_out-requires
carry_out-requires c =
    let s = queue_step c.args.b.parts c.args.b.sound c.loop-i.i _ c.loop-i-test.true in
    (holds_normal c.loop-i.invariant.1.holds, planned_fits c.loop-i.invariant.1 _ s c.plan_pending_submission-p.result c.plan_pending_submission-p.ensures c.in-Planned.is)

pub loop-i-preserved : goal.loop-i-preserved
loop-i-preserved c =
    let s = queue_step c.args.b.parts c.args.b.sound c.loop-i.i _ c.loop-i-test.true in (
      c.loop-i.invariant.0,
      turned c.loop-i.invariant.1 _ s c.plan_pending_submission-p.result c.plan_pending_submission-p.ensures c.in-Planned.is
          (omega (arith, c.loop-i-test.true, c.loop-i.invariant.0)) c.carry_out.ensures c.add_answer.ensures,
    )

pub returns : goal.returns
returns c = c.done.ensures ∙ ends c.loop-i.invariant.1 (queue_end c.args.b.parts c.args.b.sound c.loop-i.i c.loop-i-test.false)
