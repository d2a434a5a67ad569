-- One law for each return: none found, or one queued or not deliverable, leaves the book; else the rules take the step of `enqueue`.
use mathlib.Core.Path.{sym, ◌∙◌}
use Rattle.part_lookup.specs.Normal.{sound_normal}
use Rattle.part_offer.specs.OfferLaws.{offer_absent, within, offer_idle, due_sound, offer_due}
use Rattle.part_offer.proofs.offer.Goals as goal

pub position_of-place-requires : goal.position_of-place-requires
position_of-place-requires c = sound_normal c.args.b.parts c.args.b.sound

pub returns-in_default : goal.returns-in_default
returns-in_default c =
    offer_absent c.args.b.parts c.args.b.sound c.args.id.0 c.args.trigger c.args.goal (sym c.position_of-place.ensures ∙ c.in_default.is)

pub is_queued-queued-requires : goal.is_queued-queued-requires
is_queued-queued-requires c = sound_normal c.args.b.parts c.args.b.sound

pub submitted_at-t-requires : goal.submitted_at-t-requires
submitted_at-t-requires c = (
  sound_normal c.args.b.parts c.args.b.sound,
  within c.args.b.parts c.args.b.sound c.args.id.0 c.args.trigger c.args.goal _
      (sym c.position_of-place.ensures ∙ c.in-Some.is),
)

pub enqueue-requires : goal.enqueue-requires
enqueue-requires c =
    due_sound c.args.b.parts c.args.b.sound c.args.id.0 c.args.trigger c.args.goal _
    (sym c.position_of-place.ensures ∙ c.in-Some.is)
    c.submitted_at-t.ensures c.redelivery.ensures

pub returns-then-queued-due : goal.returns-then-queued-due
returns-then-queued-due c =
    offer_due c.args.b.parts c.args.b.sound c.args.id.0 c.args.trigger c.args.goal _
    (sym c.position_of-place.ensures ∙ c.in-Some.is)
    c.submitted_at-t.ensures c.redelivery.ensures c.is_queued-queued.ensures
    c.deliverable-due.ensures c.if-queued-due.true
    ∙ c.enqueue.ensures

pub returns : goal.returns
returns c =
    offer_idle c.args.b.parts c.args.b.sound c.args.id.0 c.args.trigger c.args.goal _
    (sym c.position_of-place.ensures ∙ c.in-Some.is) c.submitted_at-t.ensures
    c.is_queued-queued.ensures c.deliverable-due.ensures c.if-queued-due.false
