-- By whether the token's place is live: none, or the attempt in the live slot of the submission there; the book stays as it is.
use Rattle.std.specs.Prelude.{None, Some}
use mathlib.Core.Path.{ap, ◌∙◌}
use Rattle.book.specs.Model.{view}
use Rattle.book.specs.declared.SubmittedTx.{SubmittedTx}
use Rattle.rules.specs.Steps.Slots.{present}
use Rattle.part_lookup.specs.Normal.{sound_normal}
use Rattle.part_attempt_answers.specs.Live.{at, live_within}
use Rattle.call_attempt.specs.Looking.{attempt_live, attempt_none, attempt_ended}
use Rattle.call_attempt.proofs.attempt_sound.Goals as goal

pub find_attempt-place-requires : goal.find_attempt-place-requires
find_attempt-place-requires c = sound_normal c.args.b.parts c.args.b.sound

pub returns-in_default : goal.returns-in_default
returns-in_default c =
    c.done.ensures ∙ attempt_ended c.args.b.parts (sound_normal c.args.b.parts c.args.b.sound) None c.zero.ensures
    (attempt_none c.args.t.0 (view c.args.b.parts) c.find_attempt-place.ensures c.live_place.ensures c.in_default.is)

pub submitted_at-s-requires : goal.submitted_at-s-requires
submitted_at-s-requires c = (sound_normal c.args.b.parts c.args.b.sound, live_within c.args.t.0 (view c.args.b.parts) c.find_attempt-place.ensures c.live_place.ensures c.in-Some.is)

pub returns : goal.returns
returns c =
    c.done-2.ensures ∙ attempt_ended c.args.b.parts (sound_normal c.args.b.parts c.args.b.sound) (Some (at (view c.args.b.parts) c.in-Some.k).slots.active_attempt.attempt)
    (c.filled.ensures ∙ ap (λ (s : SubmittedTx). present s.slots.active_attempt.attempt) c.submitted_at-s.ensures)
    (attempt_live c.args.t.0 (view c.args.b.parts) c.find_attempt-place.ensures c.live_place.ensures
    c.in-Some.is)
