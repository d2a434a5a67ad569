-- The first two steps leave a normal book, as a filtered list is no longer, and the three together are the removal of the rules.
use Rattle.part_change.specs.ChangeLaws.{epoch_normal, dropped_normal, unqueued_normal, removed_is}
use Rattle.part_change.proofs.remove_submitted.Goals as goal

pub unqueue-out-requires : goal.unqueue-out-requires
unqueue-out-requires c = dropped_normal c.args.id.0 c.args.b c.requires c.drop_submitted-kept.result c.drop_submitted-kept.ensures

pub remove-next-requires : goal.remove-next-requires
remove-next-requires c = epoch_normal c.unqueue-out.result (unqueued_normal c.args.id.0 c.args.b c.requires c.drop_submitted-kept.result c.drop_submitted-kept.ensures c.unqueue-out.result c.unqueue-out.ensures)

pub returns : goal.returns
returns c = removed_is c.args.id.0 c.args.b c.requires c.drop_submitted-kept.result c.drop_submitted-kept.ensures c.unqueue-out.result c.unqueue-out.ensures c.remove-next.result c.remove-next.ensures
