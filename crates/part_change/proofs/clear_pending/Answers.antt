-- Sixteen zero cells with count 0 hold the empty queue, and no other part of the book changes.
use Rattle.part_change.specs.ChangeLaws.{clear_is}
use Rattle.part_change.proofs.clear_pending.Goals as goal

pub returns : goal.returns
returns c = clear_is c.args.b c.requires c.zero-z.ensures
