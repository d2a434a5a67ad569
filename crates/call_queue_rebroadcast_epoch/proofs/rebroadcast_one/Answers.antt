-- By whether the id has a place: the rules pick nothing and the book stays, or they offer the submission there with its goal.
use mathlib.Core.Path.{sym, ap, ◌∙◌}
use Rattle.book.specs.declared.SubmissionDeliveryGoal.{SubmissionDeliveryGoal}
use Rattle.book.specs.declared.SubmittedTx.{SubmittedTx}
use Rattle.book.specs.Model.{view}
use Rattle.rules.specs.Steps.{run_book}
use Rattle.rules.specs.Calls.Offer.{offer, goal_for}
use Rattle.part_lookup.specs.Normal.{sound_normal}
use Rattle.part_lookup.specs.Place.{has_id}
use Rattle.part_lookup.specs.PlaceLaws.{at_first}
use Rattle.call_queue_rebroadcast_epoch.specs.Rebroadcast.{rebroadcast_absent, rebroadcast_at}
use Rattle.call_queue_rebroadcast_epoch.proofs.rebroadcast_one.Goals as goal

pub position_of-place-requires : goal.position_of-place-requires
position_of-place-requires c = sound_normal c.args.b.parts c.args.b.sound

pub returns-in_default : goal.returns-in_default
returns-in_default c =
    rebroadcast_absent c.args.b.parts c.args.trigger c.args.id.0 (sym c.position_of-place.ensures ∙ c.in_default.is)

pub submitted_at-t-requires : goal.submitted_at-t-requires
submitted_at-t-requires c = (sound_normal c.args.b.parts c.args.b.sound, (at_first (has_id c.args.id.0) (view c.args.b.parts).submitted (sym c.position_of-place.ensures ∙ c.in-Some.is)).within)

pub returns : goal.returns
returns c =
    rebroadcast_at c.args.b.parts c.args.trigger c.args.id.0 _ (sym c.position_of-place.ensures ∙ c.in-Some.is)
    ∙ ap (λ (g : SubmissionDeliveryGoal). run_book (offer c.args.id.0 c.args.trigger g) (view c.args.b.parts))
    (ap (λ (t : SubmittedTx). goal_for t.entry) (sym c.submitted_at-t.ensures) ∙ sym c.goal_for.ensures)
    ∙ c.offer.ensures
