use lib.ListN.{drop_of_length-le}
use native.Mathlib.Omega.{arith}
use mathlib.Core.Path.{ap, ◌∙◌}
use Rattle.std.specs.Prelude.{ℕ, ◌≡◌, ◌<◌, ◌≤◌, map, length}
use Rattle.std.specs.List.{filter}
use Rattle.base_coin_string.specs.CoinIds.{ids_in}
use Rattle.base_coin_string.specs.CoinList.{coins_in}
use Rattle.book.specs.Model.{view, id_cells}
use Rattle.book.specs.Sound.{id_of}
use Rattle.part_ids.specs.Collect.{collect_all}
use Rattle.part_lookup.specs.Normal.{sound_normal}
use Rattle.call_causally_rolled_back_ids.specs.RolledBack.{is_rolled_back}
use Rattle.call_causally_rolled_back_ids.proofs.rolled_back_ids.Goals as goal

pub submitted-retained-requires : goal.submitted-retained-requires
submitted-retained-requires c = sound_normal c.args.b.now.parts c.args.b.now.sound

-- no more ids are collected than submissions looked at, of which a book has at most 16
pub push-requires : goal.push-requires
push-requires c =
    let f : length (view c.args.b.now.parts).submitted ≤ 16 = (sound_normal c.args.b.now.parts c.args.b.now.sound).fits.submitted in
    let l : length c.submitted-retained.result.now ≡ length (view c.args.b.now.parts).submitted = ap length c.submitted-retained.ensures in
    let h : c.loop-t.out.count < 16 = omega (arith, c.loop-t.invariant.few, c.loop-t-test.true) in
    (omega arith, (h, c.loop-t.invariant.normal))

pub returns : goal.returns
returns c =
    collect_all id_of (is_rolled_back (coins_in c.args.absent.now) (ids_in c.args.inputs.now)) _ c.loop-t.invariant (drop_of_length-le _ c.loop-t-test.false)
    ∙ ap (λ ts. id_cells 16 (map id_of (filter (is_rolled_back (coins_in c.args.absent.now) (ids_in c.args.inputs.now)) ts))) c.submitted-retained.ensures
