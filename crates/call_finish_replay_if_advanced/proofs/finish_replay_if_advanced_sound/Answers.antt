-- The epoch that `finish_if_advanced` leaves is put into the book, by one law on what it leaves.
use Rattle.std.proofs.Common.{◌∙◌}
use Rattle.part_lookup.specs.Normal.{sound_normal}
use Rattle.call_finish_replay_if_advanced.specs.Finishing.{finished_normal, finish_is}
use Rattle.call_finish_replay_if_advanced.proofs.finish_replay_if_advanced_sound.Goals as goal

pub set_epoch-out-requires : goal.set_epoch-out-requires
set_epoch-out-requires c = (sound_normal c.args.b.parts c.args.b.sound, finished_normal c.args.b.parts _ c.finish_if_advanced-left.ensures c.args.b.sound)

pub returns : goal.returns
returns c = c.done.ensures ∙ finish_is c.args.b.parts c.args.h c.finish_if_advanced-left.ensures c.set_epoch-out.ensures
