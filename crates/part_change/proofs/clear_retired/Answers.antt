-- The ids that the callee answers hold the empty list, and no other part of the book changes.
use Rattle.part_change.specs.ChangeLaws.{unretire_is}
use Rattle.part_change.proofs.clear_retired.Goals as goal

pub returns : goal.returns
returns c = unretire_is c.args.b c.requires c.empty-out.ensures
