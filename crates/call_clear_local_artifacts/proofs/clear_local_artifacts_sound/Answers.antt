-- A full withdrawal is refused, else it leaves a sound book, on which clearing queue and epoch are the rules' two notes.
use mathlib.Core.List.{map}
use Rattle.std.proofs.Common.{◌∙◌, arith}
use Rattle.part_ids.specs.IdLaws.{count_is, list_is}
use Rattle.base_lists.specs.Lists.{rising}
use Rattle.book.specs.Model.{view}
use Rattle.book.specs.Sound.{id_of}
use Rattle.part_lookup.specs.Normal.{sound_normal}
use Rattle.call_clear_local_artifacts.specs.Clearing.{all_fit, none_normal, unqueued_normal, clear_full, clear_is}
use Rattle.call_clear_local_artifacts.proofs.clear_local_artifacts_sound.Goals as goal

pub items-requires : goal.items-requires
items-requires c = (omega arith, count_is (rising (map id_of (view c.args.b.parts).submitted)) c.all_to_remove-gone.ensures (all_fit (view c.args.b.parts) (sound_normal c.args.b.parts c.args.b.sound).fits))

pub clear_pending-unqueued-requires : goal.clear_pending-unqueued-requires
clear_pending-unqueued-requires c = sound_normal c.in-Ok.kept.parts c.in-Ok.kept.sound

pub set_epoch-cleared-requires : goal.set_epoch-cleared-requires
set_epoch-cleared-requires c = (unqueued_normal c.in-Ok.kept c.clear_pending-unqueued.ensures, none_normal c.clear.ensures)

pub returns-in-Ok : goal.returns-in-Ok
returns-in-Ok c =
    c.done.ensures
    ∙ clear_is c.args.b.parts (c.items.ensures ∙ list_is (rising (map id_of (view c.args.b.parts).submitted)) c.all_to_remove-gone.ensures) c.withdraw_each.result c.withdraw_each.ensures c.in-Ok.is c.clear_pending-unqueued.ensures c.clear.ensures c.set_epoch-cleared.ensures

pub returns-in-Err : goal.returns-in-Err
returns-in-Err c = c.refused.ensures ∙ clear_full c.args.b.parts (c.items.ensures ∙ list_is (rising (map id_of (view c.args.b.parts).submitted)) c.all_to_remove-gone.ensures) c.withdraw_each.result c.withdraw_each.ensures c.in-Err.is
