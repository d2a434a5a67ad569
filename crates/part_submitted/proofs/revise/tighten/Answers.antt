-- The one field written is the one that `revised` sets, with the expiry that `min_expiry` promises.
use Rattle.rules.specs.Steps.Entry.{revised}
use Rattle.part_submitted.proofs.revise.tighten.Goals as goal

pub returns : goal.returns
unfolding revised
returns c = rw c.min_expiry-e.ensures
