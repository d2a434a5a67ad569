-- `queue_rebroadcast_epoch`: the listed submissions are offered in the list's order, for a fee upgrade where the current variant is acknowledged.
use Rattle.std.specs.Prelude.{ℕ, cond, List, [], ◌∷◌}
use Rattle.book.specs.declared.SubmittedTx.{SubmittedTx}
use Rattle.book.specs.declared.DeliveryTrigger.{DeliveryTrigger}
use Rattle.book.specs.Sound.{id_of}
use Rattle.rules.specs.Calls.Offer.{offer, goal_for}
use Rattle.rules.specs.Doors.{ids_ok}
use Rattle.rules.specs.Keyed.{pick}
use Rattle.rules.specs.Rule.{done, Rule, undo, ◌>>=◌, ◌>>◌, book, end_turn}
use Rattle.book.specs.declared.refusal.Refusal.TheVariants as refusals

abbrev pub rebroadcast_of : DeliveryTrigger → List SubmittedTx → Rule (Unit {0})
rebroadcast_of trigger [] = done tt
rebroadcast_of trigger (t ∷ ts) = offer (id_of t) trigger (goal_for t.entry)

unfoldable pub rebroadcast : DeliveryTrigger → List ℕ → Rule (Unit {0})
unfolding pick offer goal_for
rebroadcast trigger [] = done tt
rebroadcast trigger (i ∷ is) = do
  b ← book
  rebroadcast_of trigger (pick id_of i b.submitted)
  end_turn
  rebroadcast trigger is

unfoldable pub queue_rebroadcast_epoch : List ℕ → DeliveryTrigger → Rule (Unit {0})
unfolding ids_ok rebroadcast
queue_rebroadcast_epoch is trigger = cond (ids_ok is) (rebroadcast trigger is) (undo refusals.BadList)
