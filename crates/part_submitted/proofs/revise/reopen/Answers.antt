-- The two fields written are those that `revised` sets.
use Rattle.rules.specs.Steps.Entry.{revised}
use Rattle.part_submitted.proofs.revise.reopen.Goals as goal

pub returns : goal.returns
unfolding revised
returns c = rw c.zero-e.ensures
