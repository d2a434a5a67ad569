-- Over 64 ids are refused with 2, else the withdrawal is settled; the ids are held ones, so at most 16.
use Rattle.std.proofs.Common.{ap, ◌∙◌, arith}
use Rattle.part_ids.specs.IdLaws.{count_is, list_is}
use Rattle.book.specs.Model.{view, id_cells}
use Rattle.rules.specs.Calls.RetainSubmitted.{to_remove}
use Rattle.part_lookup.specs.Normal.{sound_normal}
use Rattle.call_retain_submitted.specs.Removed.{removed_fit}
use Rattle.call_retain_submitted.specs.Retaining.{retain_many, retain_is}
use Rattle.call_retain_submitted.proofs.retain_submitted_sound.Goals as goal

pub returns-then-ids-gt64 : goal.returns-then-ids-gt64
returns-then-ids-gt64 c = c.refused.ensures ∙ retain_many c.args.b.parts c.args.ids.now c.if-ids-gt64.true

pub items-requires : goal.items-requires
items-requires c = (omega arith, count_is (to_remove c.args.ids.now (view c.args.b.parts)) c.to_remove-gone.ensures (removed_fit (view c.args.b.parts) (sound_normal c.args.b.parts c.args.b.sound).fits c.args.ids.now))

pub widened-requires : goal.widened-requires
widened-requires c = count_is (to_remove c.args.ids.now (view c.args.b.parts)) c.to_remove-gone.ensures (removed_fit (view c.args.b.parts) (sound_normal c.args.b.parts c.args.b.sound).fits c.args.ids.now)

pub returns : goal.returns
returns c =
    let gone = list_is (to_remove c.args.ids.now (view c.args.b.parts)) c.to_remove-gone.ensures in
    c.settled.ensures
    ∙ retain_is c.args.b.parts c.args.ids.now c.if-ids-gt64.false (c.items.ensures ∙ gone) c.withdraw_each-left.result c.withdraw_each-left.ensures (c.widened.ensures ∙ ap (id_cells 64) gone)
