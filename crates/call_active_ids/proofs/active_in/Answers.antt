-- Where the loop ends, no submission is ahead, so the ids collected are those of all the Active ones.
use lib.ListN.{drop_of_length-le}
use Rattle.std.specs.Prelude.{List, length, ◌≡◌, ◌≤◌, ◌<◌}
use Rattle.std.proofs.Common.{ap, ◌∙◌, arith}
use Rattle.book.specs.declared.SubmittedTx.{SubmittedTx}
use Rattle.book.specs.Model.{view, id_cells}
use Rattle.book.specs.Sound.{id_of}
use Rattle.part_lookup.specs.Normal.{sound_normal}
use Rattle.part_ids.specs.Collect.{collect_all}
use Rattle.call_active_ids.specs.Active.{is_active, active_in}
use Rattle.call_active_ids.proofs.active_in.Goals as goal

pub submitted-retained-requires : goal.submitted-retained-requires
submitted-retained-requires c = sound_normal c.args.b.now.parts c.args.b.now.sound

-- no more ids are collected than submissions looked at, of which a book has at most 16
pub push-requires : goal.push-requires
push-requires c =
    let f : length (view c.args.b.now.parts).submitted ≤ 16 = (sound_normal c.args.b.now.parts c.args.b.now.sound).fits.submitted in
    let l : length c.submitted-retained.result.now ≡ length (view c.args.b.now.parts).submitted = ap length c.submitted-retained.ensures in
    let h : c.loop-t.out.count < 16 = omega (arith, c.loop-t.invariant.few, c.loop-t-test.true) in
    (omega arith, (h, c.loop-t.invariant.normal))

pub returns : goal.returns
returns c =
    collect_all id_of is_active _ c.loop-t.invariant (drop_of_length-le _ c.loop-t-test.false)
    ∙ ap (λ (ts : List SubmittedTx). id_cells 16 (active_in ts)) c.submitted-retained.ensures
