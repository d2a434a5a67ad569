-- By the place found: a live token gives the open fee intent of the submission there, any other what the rules give an inactive one.
use Rattle.std.specs.Prelude.{None, Some, Ok}
use mathlib.Core.Path.{ap, ◌∙◌}
use Rattle.book.specs.Model.{view}
use Rattle.book.specs.declared.SubmissionFeeIntent.{SubmissionFeeIntent}
use Rattle.book.specs.declared.SubmittedTx.{SubmittedTx}
use Rattle.rules.specs.Parts.{open_fee_intent}
use Rattle.rules.specs.Rule.{done, run}
use Rattle.rules.specs.Calls.FeeIntentForAttempt.{fee_intent_for_attempt}
use Rattle.part_replies.specs.Reply.{reply}
use Rattle.part_lookup.specs.Normal.{sound_normal}
use Rattle.part_attempt_answers.specs.Live.{at, live_within, with_live_lem, with_inactive}
use Rattle.part_attempt_answers.specs.Answers.{done_reply}
use Rattle.call_fee_intent_for_attempt.proofs.fee_intent_for_attempt_sound.Goals as goal

pub find_attempt-place-requires : goal.find_attempt-place-requires
find_attempt-place-requires c = sound_normal c.args.b.parts c.args.b.sound

pub inactive-requires : goal.inactive-requires
inactive-requires c = sound_normal c.args.b.parts c.args.b.sound

pub returns-in_default : goal.returns-in_default
unfolding fee_intent_for_attempt
returns-in_default c =
    c.inactive.ensures ∙ ap (reply c.args.b.parts)
    (with_inactive c.args.t.0 (view c.args.b.parts) c.find_attempt-place.ensures c.live_place.ensures None (λ s. done (Some (open_fee_intent s.entry)))
    c.in_default.is)

pub submitted_at-s-requires : goal.submitted_at-s-requires
submitted_at-s-requires c = (sound_normal c.args.b.parts c.args.b.sound, live_within c.args.t.0 (view c.args.b.parts) c.find_attempt-place.ensures c.live_place.ensures c.in-Some.is)

pub returns : goal.returns
unfolding fee_intent_for_attempt run
returns c =
    c.done.ensures
    ∙ ap (λ (f : SubmissionFeeIntent). record { answer = Ok (Some f); book = c.args.b.parts }) (c.open_fee_intent.ensures ∙ ap (λ (s : SubmittedTx). open_fee_intent s.entry) c.submitted_at-s.ensures)
    ∙ done_reply c.args.b.parts (Some (open_fee_intent (at (view c.args.b.parts) c.in-Some.k).entry)) (sound_normal c.args.b.parts c.args.b.sound).held
    (with_live_lem c.args.t.0 (view c.args.b.parts) c.find_attempt-place.ensures c.live_place.ensures None
    (λ s. done (Some (open_fee_intent s.entry))) c.in-Some.is)
