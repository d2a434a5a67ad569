-- An absent id changes nothing in the rules either; for a retained one there is room, since their step leaves the book sound.
use mathlib.Core.Path.{sym, ◌∙◌}
use Rattle.part_lookup.specs.Normal.{sound_normal}
use Rattle.part_change.specs.ChangeLaws.{epoch_normal}
use Rattle.call_collect_rollback_replay_ids.specs.Marking.{replay_none, mark_room, epoch_marked, replay_some, replayed_sound}
use Rattle.call_collect_rollback_replay_ids.proofs.note_replayed.Goals as goal

pub position_of-place-requires : goal.position_of-place-requires
position_of-place-requires c = sound_normal c.args.b.parts c.args.b.sound

pub returns-in_default : goal.returns-in_default
returns-in_default c = replay_none c.args.b.parts c.args.b.sound c.args.id.0 (sym c.position_of-place.ensures ∙ c.in_default.is)

pub mark_replayed-marked-requires : goal.mark_replayed-marked-requires
mark_replayed-marked-requires c = (epoch_normal c.args.b.parts (sound_normal c.args.b.parts c.args.b.sound), mark_room c.args.b.parts c.args.b.sound c.args.id.0 (sym c.position_of-place.ensures ∙ c.in-Some.is))

pub set_epoch-parts-requires : goal.set_epoch-parts-requires
set_epoch-parts-requires c = (
  sound_normal c.args.b.parts c.args.b.sound,
  epoch_marked c.args.b.parts c.args.b.sound c.args.id.0
      (sym c.position_of-place.ensures ∙ c.in-Some.is) c.mark_replayed-marked.ensures,
)

pub invariant_of-result : goal.invariant_of-result
invariant_of-result c = record {
  sound = replayed_sound c.args.b.parts c.args.b.sound c.args.id.0
      (replay_some c.args.b.parts c.args.b.sound c.args.id.0 (sym c.position_of-place.ensures ∙ c.in-Some.is) c.mark_replayed-marked.ensures c.set_epoch-parts.ensures);
}

pub returns : goal.returns
returns c =
    replay_some c.args.b.parts c.args.b.sound c.args.id.0 (sym c.position_of-place.ensures ∙ c.in-Some.is)
    c.mark_replayed-marked.ensures c.set_epoch-parts.ensures
