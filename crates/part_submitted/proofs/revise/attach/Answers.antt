-- The bundle is sound as required, so `revised` takes the branch that joins it.
use Rattle.rules.specs.Steps.Entry.{revised}
use Rattle.part_submitted.proofs.revise.attach.Goals as goal

pub returns : goal.returns
unfolding revised
returns c = rw c.requires
