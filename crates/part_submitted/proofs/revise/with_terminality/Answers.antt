-- The one field written is the one that `revised` sets.
use Rattle.std.proofs.Common.{refl}
use Rattle.rules.specs.Steps.Entry.{revised}
use Rattle.part_submitted.proofs.revise.with_terminality.Goals as goal

pub returns : goal.returns
unfolding revised
returns c = refl
