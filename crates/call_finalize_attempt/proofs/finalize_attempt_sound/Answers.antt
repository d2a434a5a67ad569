-- Three ways of the rules: an unsound source is refusal 3, a token not live is inactive, and a live one has its place inside.
use Rattle.std.specs.Prelude.{None}
use mathlib.Core.Path.{sym, ap, ◌∙◌}
use borrow.Author.Tests.{not-true, not-false}
use Rattle.book.specs.Model.{view}
use Rattle.rules.specs.Calls.FinalizeAttempt.{finalize_live}
use Rattle.part_replies.specs.Reply.{reply}
use Rattle.part_lookup.specs.Normal.{sound_normal}
use Rattle.part_attempt_answers.specs.Live.{live_within, with_live_lem, with_inactive}
use Rattle.call_finalize_attempt.specs.Tests.{source_unsound, source_sound}
use Rattle.call_finalize_attempt.proofs.finalize_attempt_sound.Goals as goal

pub returns-then-not-sound : goal.returns-then-not-sound
returns-then-not-sound c =
    c.refused.ensures ∙ ap (reply c.args.b.parts)
    (source_unsound c.args.source c.args.joined c.args.t.0 (view c.args.b.parts) (sym c.is_sound_source-sound.ensures ∙ not-true _ c.if-not-sound.true-raw))

pub find_attempt-place-requires : goal.find_attempt-place-requires
find_attempt-place-requires c = sound_normal c.args.b.parts c.args.b.sound

pub inactive-requires : goal.inactive-requires
inactive-requires c = sound_normal c.args.b.parts c.args.b.sound

pub returns-in_default : goal.returns-in_default
returns-in_default c =
    c.inactive.ensures ∙ ap (reply c.args.b.parts)
    (with_inactive c.args.t.0 (view c.args.b.parts) c.find_attempt-place.ensures c.live_place.ensures None
    (finalize_live c.args.source c.args.joined) c.in_default.is ∙ source_sound c.args.source c.args.joined c.args.t.0 (view c.args.b.parts)
    (sym c.is_sound_source-sound.ensures ∙ not-false _ c.if-not-sound.false-raw))

pub finalize_live-requires : goal.finalize_live-requires
finalize_live-requires c = (
  live_within c.args.t.0 (view c.args.b.parts) c.find_attempt-place.ensures c.live_place.ensures c.in-Some.is,
  sym
      c.is_sound_source-sound.ensures ∙ not-false _ c.if-not-sound.false-raw,
)

pub returns : goal.returns
returns c =
    c.finalize_live.ensures ∙ ap (reply c.args.b.parts)
    (with_live_lem c.args.t.0 (view c.args.b.parts) c.find_attempt-place.ensures c.live_place.ensures None
    (finalize_live c.args.source c.args.joined) c.in-Some.is ∙ source_sound c.args.source c.args.joined c.args.t.0 (view c.args.b.parts)
    (sym c.is_sound_source-sound.ensures ∙ not-false _ c.if-not-sound.false-raw))
