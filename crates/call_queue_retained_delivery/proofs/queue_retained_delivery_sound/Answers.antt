-- The rules are those of the offer and an end of the turn, so what `offer` comes to is settled.
use Rattle.std.proofs.Common.{sym, ap, ◌∙◌}
use Rattle.book.specs.Model.{view}
use Rattle.rules.specs.Rule.{done}
use Rattle.rules.specs.Calls.Offer as rules
use Rattle.rules.specs.Calls.QueueRetainedDelivery.{queue_retained_delivery}
use Rattle.part_replies.specs.Reply.{reply}
use Rattle.part_sound_laws.specs.Outcomes.{bind_turn, then_answer}
use Rattle.call_queue_retained_delivery.proofs.queue_retained_delivery_sound.Goals as goal

pub returns : goal.returns
unfolding queue_retained_delivery
returns c =
    let m = view c.args.b.parts in let r = rules.offer c.args.id.0 c.args.trigger c.args.goal in
    c.settled.ensures ∙ ap (reply c.args.b.parts) (sym (bind_turn r (done tt) m ∙ then_answer tt tt c.offer.result r m c.offer.ensures))
