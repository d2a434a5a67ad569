-- Each turn is the mark of the id at the index.
use lib.ListN.{drop_of_length-le}
use Rattle.base_lists.specs.Laws.{rest_step}
use Rattle.book.specs.Model.{view}
use Rattle.part_sound_laws.specs.Outcomes.{each_on, each_done}
use Rattle.call_collect_rollback_replay_ids.specs.Collecting.{mark_each_lem}
use Rattle.call_collect_rollback_replay_ids.proofs.mark_each.Goals as goal

pub loop-id-preserved : goal.loop-id-preserved
loop-id-preserved c = each_on mark_each_lem (view c.loop-id.out.parts) c.loop-id.invariant (rest_step _ c.loop-id.id-index 0 c.loop-id-test.true) c.mark_one-out.ensures

pub returns : goal.returns
returns c = each_done mark_each_lem _ c.loop-id.invariant (drop_of_length-le _ c.loop-id-test.false)
