-- `queue`: a delivery goes to the end of the queue. Refusal 3 for what is out of range or damaged in an unused cell.
use Rattle.std.specs.Prelude.{cond}
use Rattle.book.specs.declared.PendingDelivery.{PendingDelivery}
use Rattle.book.specs.Sound.{sound_delivery}
use Rattle.rules.specs.Rule.{enqueue, note, Rule, undo, ◌>>◌, step, end_turn}
use Rattle.book.specs.declared.refusal.Refusal.TheVariants as refusals

unfoldable pub queue : PendingDelivery → Rule (Unit {0})
unfolding sound_delivery
queue d = cond (sound_delivery d)
    (do
      step (note (enqueue d))
      end_turn)
    (undo refusals.BadValue)
