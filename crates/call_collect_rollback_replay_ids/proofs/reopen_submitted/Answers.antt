-- An absent id changes nothing in the rules either; a retained one has its place inside, and the store there is their revision.
use mathlib.Core.Path.{sym, ◌∙◌}
use Rattle.part_lookup.specs.Normal.{sound_normal}
use Rattle.call_collect_rollback_replay_ids.specs.Marking.{revise_none, revise_within, revise_some, revised_sound}
use Rattle.call_collect_rollback_replay_ids.proofs.reopen_submitted.Goals as goal

pub position_of-place-requires : goal.position_of-place-requires
position_of-place-requires c = sound_normal c.args.b.parts c.args.b.sound

pub returns-in_default : goal.returns-in_default
returns-in_default c = revise_none c.args.b.parts c.args.b.sound c.args.id.0 (sym c.position_of-place.ensures ∙ c.in_default.is)

pub submitted_at-t-requires : goal.submitted_at-t-requires
submitted_at-t-requires c = (sound_normal c.args.b.parts c.args.b.sound, revise_within c.args.b.parts c.args.b.sound c.args.id.0 (sym c.position_of-place.ensures ∙ c.in-Some.is))

pub store_submitted-parts-requires : goal.store_submitted-parts-requires
store_submitted-parts-requires c = (sound_normal c.args.b.parts c.args.b.sound, revise_within c.args.b.parts c.args.b.sound c.args.id.0 (sym c.position_of-place.ensures ∙ c.in-Some.is))

pub invariant_of-result : goal.invariant_of-result
invariant_of-result c = record {
  sound = revised_sound c.args.b.parts c.args.b.sound c.args.id.0
      (revise_some c.args.b.parts c.args.b.sound c.args.id.0 (sym c.position_of-place.ensures ∙ c.in-Some.is)
      c.submitted_at-t.ensures c.reopen-entry.ensures c.store_submitted-parts.ensures);
}

pub returns : goal.returns
returns c =
    revise_some c.args.b.parts c.args.b.sound c.args.id.0 (sym c.position_of-place.ensures ∙ c.in-Some.is)
    c.submitted_at-t.ensures c.reopen-entry.ensures c.store_submitted-parts.ensures
