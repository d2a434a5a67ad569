-- The ids in the cells are the list that the rules hand out, and the book without them is what they leave.
use Rattle.std.proofs.Common.{◌∙◌}
use Rattle.part_lookup.specs.Normal.{sound_normal}
use Rattle.call_drain_retirements.specs.Draining.{drain_is}
use Rattle.call_drain_retirements.proofs.drain_retirements_sound.Goals as goal

pub clear_retired-drained-requires : goal.clear_retired-drained-requires
clear_retired-drained-requires c = sound_normal c.args.b.parts c.args.b.sound

pub returns : goal.returns
returns c = c.done.ensures ∙ drain_is c.args.b.parts c.args.b.sound c.clear_retired-drained.ensures
