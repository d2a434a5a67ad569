-- The counts of a normal book are within its arrays, and the view takes as many.
use Rattle.std.proofs.Common.{arith, rules}
use Rattle.book.specs.Model.{view}
use Rattle.part_lookup.specs.Normal.{sizes}
use Rattle.part_lookup.proofs.pending.Goals as goal

pub shared_ref_as_front-result : goal.shared_ref_as_front-result
shared_ref_as_front-result c = let s = sizes c.args.b.now c.requires in omega (arith, s.pending, s.pending_long)

pub returns : goal.returns
unfolding view
returns c = search rules
