-- Each turn is the rules' offer of the id at the index.
use lib.ListN.{drop_of_length-le}
use Rattle.std.proofs.Common.{ap, ◌∙◌}
use Rattle.std.proofs.lemmas.Result.{err_from_is_err_and}
use Rattle.base_lists.specs.Laws.{rest_step}
use Rattle.book.specs.Model.{view}
use Rattle.part_replies.specs.Reply.{outcome_by}
use Rattle.part_sound_laws.specs.Outcomes.{each_undone, each_on, each_done}
use Rattle.call_collect_rollback_replay_ids.specs.Collecting.{offer_each_lem}
use Rattle.call_collect_rollback_replay_ids.proofs.offer_again.Goals as goal

pub returns-in_err-out : goal.returns-in_err-out
returns-in_err-out c =
    let p = err_from_is_err_and c.from_residual.result c.from_residual.ensures.1 in
    rw (p.1, p.2)
    (each_undone offer_each_lem (view c.loop-id.out.parts) c.loop-id.invariant (rest_step _ c.loop-id.id-index 0 c.loop-id-test.true)
    (c.offer.ensures ∙ ap (outcome_by tt) c.in_err-out.was))

pub loop-id-preserved : goal.loop-id-preserved
loop-id-preserved c =
    each_on offer_each_lem (view c.loop-id.out.parts) c.loop-id.invariant (rest_step _ c.loop-id.id-index 0 c.loop-id-test.true)
    (c.offer.ensures ∙ ap (outcome_by tt) c.in_ok-out.was)

pub returns : goal.returns
returns c = each_done offer_each_lem _ c.loop-id.invariant (drop_of_length-le _ c.loop-id-test.false)
