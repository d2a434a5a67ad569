-- The cells hold the list of the retained ids, at most 16 in a sound book, so filtering them is filtering that list.
use mathlib.Core.List.{map}
use Rattle.part_ids.specs.IdLaws.{count_is}
use Rattle.book.specs.Model.{view}
use Rattle.book.specs.Sound.{id_of}
use Rattle.part_lookup.specs.Normal.{sound_normal}
use Rattle.call_collect_rollback_replay_ids.specs.Collecting.{ids_fit, named_is}
use Rattle.call_collect_rollback_replay_ids.proofs.named_ids.Goals as goal

pub submitted_ids-requires : goal.submitted_ids-requires
submitted_ids-requires c = sound_normal c.args.b.now.parts c.args.b.now.sound

pub among-requires : goal.among-requires
among-requires c = count_is (map id_of (view c.args.b.now.parts).submitted) c.submitted_ids.ensures (ids_fit c.args.b.now.parts c.args.b.now.sound)

pub returns : goal.returns
returns c = named_is c.args.b.now.parts c.args.b.now.sound c.submitted_ids.ensures c.args.ids.now c.among.ensures
