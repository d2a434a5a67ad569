-- Each turn is the rules' offer of the submission at the index, if it is ready; what the loop comes to, a refusal or a sound book, is answered.
use lib.ListN.{drop_of_length-le}
use Rattle.std.specs.Prelude.{List}
use Rattle.std.proofs.Common.{sym, ap, ◌∙◌}
use Rattle.base_lists.specs.Laws.{rest_step}
use Rattle.book.specs.declared.SubmittedTx.{SubmittedTx}
use Rattle.book.specs.Model.{view}
use Rattle.part_lookup.specs.Normal.{sound_normal}
use Rattle.part_replies.specs.Reply.{reply, outcome_by}
use Rattle.part_replies.specs.Settled.{settled_ok}
use Rattle.part_sound_laws.specs.Outcomes.{each_undone, each_on, each_done}
use Rattle.rules.specs.Steps.{run_book}
use Rattle.call_queue_fee_readiness.specs.Readiness.{ready_all, ready_each, readiness_is}
use Rattle.call_queue_fee_readiness.proofs.queue_fee_readiness_sound.Goals as goal

pub submitted-retained-requires : goal.submitted-retained-requires
submitted-retained-requires c = sound_normal c.args.b.parts c.args.b.sound

pub loop-t-init : goal.loop-t-init
loop-t-init c = readiness_is (view c.args.b.parts) ∙ ap (λ (ts : List SubmittedTx). run_book (ready_all ts) (view c.args.b.parts)) (sym c.submitted-retained.ensures)

pub returns-in-Err : goal.returns-in-Err
returns-in-Err c =
    c.refused.ensures
    ∙ ap (reply c.args.b.parts) (sym (each_undone ready_each (view c.loop-t.out.parts) c.loop-t.invariant (rest_step _ c.loop-t.t-index _ c.loop-t-test.true)
    (c.offer_ready.ensures ∙ ap (outcome_by tt) c.in-Err.is)))

pub loop-t-preserved : goal.loop-t-preserved
loop-t-preserved c =
    each_on ready_each (view c.loop-t.out.parts) c.loop-t.invariant (rest_step _ c.loop-t.t-index _ c.loop-t-test.true)
    (c.offer_ready.ensures ∙ ap (outcome_by tt) c.in-Ok.is)

pub returns : goal.returns
returns c =
    c.done.ensures ∙ settled_ok c.args.b.parts tt c.loop-t.out
    ∙ ap (reply c.args.b.parts) (sym (each_done ready_each _ c.loop-t.invariant (drop_of_length-le _ c.loop-t-test.false)))
