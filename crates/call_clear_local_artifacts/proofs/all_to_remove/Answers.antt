-- The cells hold the list of the retained ids, so `rising` of them is `rising` of it; a book that fits has at most 16.
use mathlib.Core.List.{map}
use Rattle.part_ids.specs.IdLaws.{count_is}
use Rattle.book.specs.Model.{view}
use Rattle.book.specs.Sound.{id_of}
use Rattle.part_lookup.specs.Normal.{sound_normal}
use Rattle.part_withdraw.specs.IdLaws.{ids_fit, rising_is}
use Rattle.call_clear_local_artifacts.proofs.all_to_remove.Goals as goal

pub submitted_ids-requires : goal.submitted_ids-requires
submitted_ids-requires c = sound_normal c.args.b.now.parts c.args.b.now.sound

pub rising-requires : goal.rising-requires
rising-requires c =
    let m = view c.args.b.now.parts in
    count_is (map id_of m.submitted) c.submitted_ids.ensures (ids_fit m (sound_normal c.args.b.now.parts c.args.b.now.sound).fits)

pub returns : goal.returns
returns c = rising_is (map id_of (view c.args.b.now.parts).submitted) c.submitted_ids.ensures c.rising.ensures
