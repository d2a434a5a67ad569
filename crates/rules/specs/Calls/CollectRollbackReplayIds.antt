-- `collect_rollback_replay_ids`: the newly marked ids are Active and unacknowledged again; all named ones are offered.
use Rattle.std.specs.Prelude.{ℕ, cond, List, [], ◌∷◌, map}
use Rattle.base_lists.specs.Lists.{elemb}
use Rattle.std.specs.List.{filter}
use Rattle.book.specs.declared.SubmissionDeliveryGoal.TheVariants.{EnsureBroadcast}
use Rattle.book.specs.declared.DeliveryTrigger.TheVariants.{Rollback}
use Rattle.book.specs.Model.{Book}
use Rattle.book.specs.Sound.{id_of}
use Rattle.rules.specs.Calls.Offer.{offer}
use Rattle.rules.specs.Doors.{ids_ok}
use Rattle.rules.specs.Rule.{done, reopen, revise, replay, Rule, undo, ◌>>=◌, ◌>>◌, book, step, end_turn}
use Rattle.book.specs.declared.refusal.Refusal.TheVariants as refusals

unfoldable pub mark_each : Book → List ℕ → Rule (Unit {0})
mark_each b [] = done tt
mark_each b (i ∷ is) = do
  cond (elemb i b.replayed) (done tt) (do
    step (replay i)
    step (revise i reopen))
  mark_each b is

unfoldable pub offer_again : List ℕ → Rule (Unit {0})
unfolding offer
offer_again [] = done tt
offer_again (i ∷ is) = do
  offer i Rollback EnsureBroadcast
  end_turn
  offer_again is

unfoldable pub collect_rollback_replay_ids : List ℕ → Rule (Unit {0})
unfolding ids_ok mark_each offer_again
collect_rollback_replay_ids is = cond (ids_ok is)
    (do
      b ← book
      mark_each b (filter (λ i. elemb i is) (map id_of b.submitted))
      offer_again (filter (λ i. elemb i is) (map id_of b.submitted)))
    (undo refusals.BadList)
