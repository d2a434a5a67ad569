-- The epoch without the id is normal, and putting it into the book is the rules' step.
use Rattle.part_change.specs.ChangeLaws.{epoch_normal}
use Rattle.call_reconcile_chain_terminality.specs.Halt.{removed_normal, unmarked_by}
use Rattle.call_reconcile_chain_terminality.proofs.unmark.Goals as goal

pub remove-requires : goal.remove-requires
remove-requires c = epoch_normal c.args.b c.requires

pub set_epoch-requires : goal.set_epoch-requires
set_epoch-requires c = (c.requires, removed_normal c.args.b c.requires c.args.id.0 c.remove.ensures)

pub returns : goal.returns
returns c = unmarked_by c.args.b c.requires c.args.id.0 c.remove.ensures c.set_epoch.ensures
