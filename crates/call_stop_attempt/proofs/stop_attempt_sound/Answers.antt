-- By whether the token is live: `with_live_lem` gives the rules of its submission, `with_inactive` the answer for any other token.
use mathlib.Core.Path.{ap, ◌∙◌}
use Rattle.book.specs.Model.{view}
use Rattle.book_answers.specs.declared.SubmissionAttemptStatus.TheVariants.{Stale}
use Rattle.rules.specs.Calls.StopAttempt.{stop_live, stop_attempt}
use Rattle.part_replies.specs.Reply.{reply}
use Rattle.part_lookup.specs.Normal.{sound_normal}
use Rattle.part_attempt_answers.specs.Live.{live_within, with_live_lem, with_inactive}
use Rattle.call_stop_attempt.proofs.stop_attempt_sound.Goals as goal

pub inactive-requires : goal.inactive-requires
inactive-requires c = sound_normal c.args.b.parts c.args.b.sound

pub returns-in_default : goal.returns-in_default
unfolding stop_attempt
returns-in_default c =
    c.inactive.ensures ∙ ap (reply c.args.b.parts)
    (with_inactive c.args.t.0 (view c.args.b.parts) c.attempt_place-place.ensures c.live_place.ensures Stale stop_live c.in_default.is)

pub stop_live-requires : goal.stop_live-requires
stop_live-requires c = live_within c.args.t.0 (view c.args.b.parts) c.attempt_place-place.ensures c.live_place.ensures c.in-Some.is

pub returns : goal.returns
unfolding stop_attempt
returns c =
    c.stop_live.ensures ∙ ap (reply c.args.b.parts)
    (with_live_lem c.args.t.0 (view c.args.b.parts) c.attempt_place-place.ensures c.live_place.ensures Stale stop_live
    c.in-Some.is)
