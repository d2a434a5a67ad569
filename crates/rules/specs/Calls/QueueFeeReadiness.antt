-- `queue_fee_readiness`: every Active submission with an unresolved fee is offered, in retained order.
use Rattle.std.specs.Prelude.{◌&&◌, List, [], ◌∷◌}
use Rattle.std.specs.List.{filter}
use Rattle.book.specs.declared.SubmittedTx.{SubmittedTx}
use Rattle.book.specs.declared.DeliveryTrigger.{DeliveryTrigger}
use Rattle.book.specs.declared.DeliveryTrigger.TheVariants.{ProviderReadiness}
use Rattle.book.specs.Sound.{id_of}
use Rattle.rules.specs.Calls.Offer.{offer, goal_for}
use Rattle.rules.specs.Parts.{fee_unresolved, active_entry}
use Rattle.rules.specs.Rule.{done, Rule, ◌>>=◌, ◌>>◌, book, end_turn}

unfoldable pub offer_each : DeliveryTrigger → List SubmittedTx → Rule (Unit {0})
unfolding offer goal_for
offer_each trigger [] = done tt
offer_each trigger (t ∷ ts) = do
  offer (id_of t) trigger (goal_for t.entry)
  end_turn
  offer_each trigger ts

unfoldable pub queue_fee_readiness : Rule (Unit {0})
unfolding offer_each
queue_fee_readiness = do
  b ← book
  offer_each ProviderReadiness (filter (λ t. active_entry t.entry && fee_unresolved t.entry) b.submitted)
