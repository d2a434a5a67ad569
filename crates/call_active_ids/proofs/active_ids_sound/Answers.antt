use Rattle.std.proofs.Common.{◌∙◌}
use Rattle.call_active_ids.specs.Collecting.{active_is}
use Rattle.call_active_ids.proofs.active_ids_sound.Goals as goal

pub returns : goal.returns
returns c = c.done.ensures ∙ active_is c.args.b.parts c.args.b.sound c.active_in-found.ensures c.widened.ensures
