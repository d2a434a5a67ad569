-- Refused 3 by the test of the delivery, else what `enqueue` comes to is settled.
use Rattle.std.proofs.Common.{sym, ap, ◌∙◌}
use borrow.Author.Tests.{not-true, not-false}
use Rattle.book.specs.Model.{view}
use Rattle.part_replies.specs.Reply.{reply}
use Rattle.call_queue.specs.Queueing.{queue_damaged, queue_taken}
use Rattle.call_queue.proofs.queue_sound.Goals as goal

pub returns-then-not-sound : goal.returns-then-not-sound
returns-then-not-sound c =
    c.refused.ensures
    ∙ ap (reply c.args.b.parts) (sym (queue_damaged c.args.d (view c.args.b.parts) (sym c.is_sound_delivery-sound.ensures ∙ not-true c.is_sound_delivery-sound.result c.if-not-sound.true-raw)))

pub enqueue-requires : goal.enqueue-requires
enqueue-requires c = sym c.is_sound_delivery-sound.ensures ∙ not-false c.is_sound_delivery-sound.result c.if-not-sound.false-raw

pub returns : goal.returns
returns c =
    c.settled.ensures
    ∙ ap (reply c.args.b.parts) (sym (queue_taken c.args.d (view c.args.b.parts) c.enqueue.result (sym c.is_sound_delivery-sound.ensures ∙ not-false c.is_sound_delivery-sound.result c.if-not-sound.false-raw) c.enqueue.ensures))
