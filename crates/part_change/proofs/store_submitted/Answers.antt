-- The place is below the length, so the store into the cells is the store into the list that they hold.
use Rattle.part_change.specs.ChangeLaws.{store_is}
use Rattle.part_change.proofs.store_submitted.Goals as goal

pub returns : goal.returns
returns c = store_is c.args.b c.requires.0 c.args.k c.args.t c.requires.1
