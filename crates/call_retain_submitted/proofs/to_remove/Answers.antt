-- The ids held are filtered by the list and put in rising order, which is `to_remove`; a part of at most 16 ids fits in 16 cells.
use mathlib.Core.List.{map}
use mathlib.Core.Path.{ap, ◌∙◌}
use Prim.Native.Nat.{ℕ}
use Rattle.part_ids.specs.IdLaws.{count_is}
use Rattle.base_lists.specs.Lists.{elemb}
use Rattle.std.specs.List.{filter}
use Rattle.book.specs.Model.{view, id_cells}
use Rattle.book.specs.Sound.{id_of}
use Rattle.part_lookup.specs.Normal.{sound_normal}
use Rattle.part_withdraw.specs.IdLaws.{ids_fit, rising_is}
use Rattle.call_retain_submitted.specs.Removed.{some_fit, chosen_is, remove_is}
use Rattle.call_retain_submitted.proofs.to_remove.Goals as goal

pub submitted_ids-requires : goal.submitted_ids-requires
submitted_ids-requires c = sound_normal c.args.b.now.parts c.args.b.now.sound

pub among-requires : goal.among-requires
among-requires c =
    let m = view c.args.b.now.parts in
    count_is (map id_of m.submitted) c.submitted_ids.ensures (ids_fit m (sound_normal c.args.b.now.parts c.args.b.now.sound).fits)

pub rising-requires : goal.rising-requires
rising-requires c = let m = view c.args.b.now.parts in count_is (filter (λ (i : ℕ). elemb i c.args.ids.now) (map id_of m.submitted)) (chosen_is (map id_of m.submitted) c.submitted_ids.ensures c.args.ids.now c.among.ensures) (some_fit m (sound_normal c.args.b.now.parts c.args.b.now.sound).fits c.args.ids.now)

pub returns : goal.returns
returns c =
    let m = view c.args.b.now.parts in rising_is (filter (λ (i : ℕ). elemb i c.args.ids.now) (map id_of m.submitted)) (chosen_is (map id_of m.submitted) c.submitted_ids.ensures c.args.ids.now c.among.ensures) c.rising.ensures
    ∙ ap (id_cells 16) (remove_is c.args.ids.now m)
