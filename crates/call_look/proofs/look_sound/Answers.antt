-- By the place of the id: none, or the look at the submission there; the book stays as it is.
use Rattle.std.specs.Prelude.{None, Some}
use mathlib.Core.Path.{sym, ap, ◌∙◌}
use Rattle.std.proofs.Math.Path.{refl}
use Rattle.book.specs.Model.{view}
use Rattle.rules.specs.Calls.Look.{look_of}
use Rattle.part_lookup.specs.Normal.{sound_normal}
use Rattle.call_look.specs.Looking.{look_none, within, look_at_lem, look_ended}
use Rattle.call_look.proofs.look_sound.Goals as goal

pub position_of-requires : goal.position_of-requires
position_of-requires c = sound_normal c.args.b.parts c.args.b.sound

pub returns-in_default : goal.returns-in_default
returns-in_default c =
    c.done.ensures ∙ look_ended c.args.b.parts (sound_normal c.args.b.parts c.args.b.sound) None refl
    (look_none c.args.id.0 (view c.args.b.parts) (sym c.position_of.ensures ∙ c.in_default.is))

pub submitted_at-s-requires : goal.submitted_at-s-requires
submitted_at-s-requires c = (sound_normal c.args.b.parts c.args.b.sound, within c.args.id.0 (view c.args.b.parts) (sym c.position_of.ensures ∙ c.in-Some.is))

pub returns : goal.returns
returns c =
    c.done-2.ensures ∙ look_ended c.args.b.parts (sound_normal c.args.b.parts c.args.b.sound) (Some (look_of _)) (ap Some (c.look_of.ensures ∙ ap look_of c.submitted_at-s.ensures))
    (look_at_lem c.args.id.0 (view c.args.b.parts) (sym c.position_of.ensures ∙ c.in-Some.is))
