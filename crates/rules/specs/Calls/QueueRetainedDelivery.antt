-- `queue_retained_delivery`, as a call.
use Rattle.std.specs.Prelude.{ℕ}
use Rattle.book.specs.declared.SubmissionDeliveryGoal.{SubmissionDeliveryGoal}
use Rattle.book.specs.declared.DeliveryTrigger.{DeliveryTrigger}
use Rattle.rules.specs.Calls.Offer.{offer}
use Rattle.rules.specs.Rule.{Rule, ◌>>◌, end_turn}

unfoldable pub queue_retained_delivery : ℕ → DeliveryTrigger → SubmissionDeliveryGoal → Rule (Unit {0})
unfolding offer
queue_retained_delivery i trigger g = do
  offer i trigger g
  end_turn
