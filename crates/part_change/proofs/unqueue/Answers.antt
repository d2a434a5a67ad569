-- The cells that the callee answers hold the queue without the entries of the id, and no other part of the book changes.
use Rattle.book.specs.Model.{view}
use Rattle.part_lookup.specs.Normal.{sizes, pending_are}
use Rattle.part_change.specs.ChangeLaws.{unqueue_is}
use Rattle.part_change.proofs.unqueue.Goals as goal

pub keep_others-kept-requires : goal.keep_others-kept-requires
unfolding view
keep_others-kept-requires c = ((sizes c.args.b c.requires).pending, pending_are c.args.b c.requires)

pub returns : goal.returns
unfolding view
returns c = unqueue_is c.args.b c.requires c.args.id.0 c.keep_others-kept.result.count c.keep_others-kept.result.items c.keep_others-kept.ensures
