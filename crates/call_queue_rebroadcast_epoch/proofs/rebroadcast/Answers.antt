-- Each turn is the rules' rebroadcast of the id at the index.
use lib.ListN.{drop_of_length-le}
use Rattle.std.proofs.Common.{ap, ◌∙◌}
use Rattle.std.proofs.lemmas.Result.{err_from_is_err_and}
use Rattle.base_lists.specs.Laws.{rest_step}
use Rattle.book.specs.Model.{view}
use Rattle.part_replies.specs.Reply.{outcome_by}
use Rattle.part_sound_laws.specs.Outcomes.{each_undone, each_on, each_done}
use Rattle.call_queue_rebroadcast_epoch.specs.Rebroadcast.{rebroadcast_each}
use Rattle.call_queue_rebroadcast_epoch.proofs.rebroadcast.Goals as goal

pub returns-in_err-out : goal.returns-in_err-out
returns-in_err-out c =
    let p = err_from_is_err_and c.from_residual.result c.from_residual.ensures.1 in
    rw (p.1, p.2)
    (each_undone (rebroadcast_each c.args.trigger) (view c.loop-id.out.parts) c.loop-id.invariant (rest_step c.args.ids.now c.loop-id.id-index 0 c.loop-id-test.true)
    (c.rebroadcast_one.ensures ∙ ap (outcome_by tt) c.in_err-out.was))

pub loop-id-preserved : goal.loop-id-preserved
loop-id-preserved c =
    each_on (rebroadcast_each c.args.trigger) (view c.loop-id.out.parts) c.loop-id.invariant (rest_step c.args.ids.now c.loop-id.id-index 0 c.loop-id-test.true)
    (c.rebroadcast_one.ensures ∙ ap (outcome_by tt) c.in_ok-out.was)

pub returns : goal.returns
returns c = each_done (rebroadcast_each c.args.trigger) _ c.loop-id.invariant (drop_of_length-le c.args.ids.now {i = c.loop-id.id-index} c.loop-id-test.false)
