-- The tests of the lists decide between refusal 2 and the ids found, put in rising order.
use borrow.Author.Tests.{not-true, not-false}
use Rattle.base_coin_string.specs.CoinIds.{ids_in}
use Rattle.base_coin_string.specs.CoinList.{coins_in}
use Rattle.book.specs.Model.{view}
use Rattle.part_lookup.specs.Normal.{sound_normal}
use Rattle.part_replies.specs.Reply.{ids_reply}
use Rattle.call_causally_rolled_back_ids.specs.RolledBack.{lists_told, found_count, up_count, up_ids, rolled_back_shut, rolled_back_reply}
use mathlib.Core.Path.{ap, ◌∙◌}
use Rattle.call_causally_rolled_back_ids.proofs.causally_rolled_back_ids_sound.Goals as goal

pub returns-then-not-ok : goal.returns-then-not-ok
returns-then-not-ok c =
    c.refused.ensures
    ∙ ap (ids_reply c.args.b.parts) (rolled_back_shut c.args.absent.now c.args.inputs.now (view c.args.b.parts) (lists_told c.args.absent.now c.args.inputs.now c.is_coin_list-coins.ensures c.is_id_list-live.ensures (not-true _ c.if-not-ok.true-raw)))

pub rising-requires : goal.rising-requires
rising-requires c = found_count (coins_in c.args.absent.now) (ids_in c.args.inputs.now) (view c.args.b.parts) (sound_normal c.args.b.parts c.args.b.sound).fits.submitted c.rolled_back_ids.result c.rolled_back_ids.ensures

pub widened-ids-requires : goal.widened-ids-requires
widened-ids-requires c = up_count (coins_in c.args.absent.now) (ids_in c.args.inputs.now) (view c.args.b.parts) (sound_normal c.args.b.parts c.args.b.sound).fits.submitted c.rolled_back_ids.result c.rolled_back_ids.ensures c.rising.result c.rising.ensures

pub returns : goal.returns
returns c =
    c.done.ensures
    ∙ rolled_back_reply c.args.absent.now c.args.inputs.now c.args.b.parts c.widened-ids.result c.args.b.sound
    (lists_told c.args.absent.now c.args.inputs.now c.is_coin_list-coins.ensures c.is_id_list-live.ensures (not-false _ c.if-not-ok.false-raw))
    (up_ids (coins_in c.args.absent.now) (ids_in c.args.inputs.now) (view c.args.b.parts) (sound_normal c.args.b.parts c.args.b.sound).fits.submitted c.rolled_back_ids.result c.rolled_back_ids.ensures c.rising.result c.rising.ensures c.widened-ids.ensures)
