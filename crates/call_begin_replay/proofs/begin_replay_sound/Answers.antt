-- The epoch that `begin` answers is put into the book, by one law on what `begin` answers.
use Rattle.std.proofs.Common.{◌∙◌}
use Rattle.part_lookup.specs.Normal.{sound_normal}
use Rattle.call_begin_replay.specs.Beginning.{begun_normal, begin_is}
use Rattle.call_begin_replay.proofs.begin_replay_sound.Goals as goal

pub set_epoch-out-requires : goal.set_epoch-out-requires
set_epoch-out-requires c = (sound_normal c.args.b.parts c.args.b.sound, begun_normal c.args.b.parts _ c.begin-begun.ensures c.args.b.sound)

pub returns : goal.returns
returns c = c.done.ensures ∙ begin_is c.args.b.parts c.args.h c.begin-begun.ensures c.set_epoch-out.ensures
