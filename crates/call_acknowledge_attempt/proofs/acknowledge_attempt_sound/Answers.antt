-- By whether the token's place is live: the rules' `with_live` comes to the inactive answer or to acknowledging the submission there.
use mathlib.Core.Path.{ap, ◌∙◌}
use Rattle.book.specs.Model.{view}
use Rattle.book_answers.specs.declared.SubmissionAttemptStatus.TheVariants.{Stale}
use Rattle.rules.specs.Calls.AcknowledgeAttempt.{acknowledge_live, acknowledge_attempt}
use Rattle.part_replies.specs.Reply.{reply}
use Rattle.part_lookup.specs.Normal.{sound_normal}
use Rattle.part_attempt_answers.specs.Live.{live_within, with_live_lem, with_inactive}
use Rattle.call_acknowledge_attempt.proofs.acknowledge_attempt_sound.Goals as goal

pub inactive-requires : goal.inactive-requires
inactive-requires c = sound_normal c.args.b.parts c.args.b.sound

pub returns-in_default : goal.returns-in_default
unfolding acknowledge_attempt
returns-in_default c =
    c.inactive.ensures ∙ ap (reply c.args.b.parts)
    (with_inactive c.args.t.0 (view c.args.b.parts) c.attempt_place-place.ensures c.live_place.ensures Stale acknowledge_live c.in_default.is)

pub acknowledge_live-requires : goal.acknowledge_live-requires
acknowledge_live-requires c = live_within c.args.t.0 (view c.args.b.parts) c.attempt_place-place.ensures c.live_place.ensures c.in-Some.is

pub returns : goal.returns
unfolding acknowledge_attempt
returns c =
    c.acknowledge_live.ensures ∙ ap (reply c.args.b.parts)
    (with_live_lem c.args.t.0 (view c.args.b.parts) c.attempt_place-place.ensures c.live_place.ensures Stale acknowledge_live
    c.in-Some.is)
