-- What the rules of `queue` come to, by the test of the delivery.
use Rattle.std.specs.Prelude.{Bool, true, false, cond, ◌≡◌, Result}
use Rattle.std.proofs.Common.{ap, ◌∙◌}
use Rattle.book.specs.declared.PendingDelivery.{PendingDelivery}
use Rattle.book.specs.declared.refusal.Refusal.{Refusal}
use Rattle.book.specs.declared.sound.SoundBook.{SoundBook}
use Rattle.book.specs.Model.{Book}
use Rattle.book.specs.Sound.{sound_delivery}
use Rattle.rules.specs.Rule.{Rule, done, undo, enqueue, note, step, turn, ◌>>=◌, undone, run}
use Rattle.rules.specs.Steps.{run_book}
use Rattle.rules.specs.Calls.Queue.{queue}
use Rattle.part_replies.specs.Reply.{outcome_by}
use Rattle.part_sound_laws.specs.Outcomes.{bind_turn, then_answer}
use Rattle.book.specs.declared.refusal.Refusal.TheVariants as refusals

module _ (d : PendingDelivery) (m : Book) where
  abbrev tested : Bool → Rule (Unit {0})
  tested t = cond t (step (note (enqueue d)) >>= (λ _. turn (done tt))) (undo refusals.BadValue)

  pub queue_damaged : sound_delivery d ≡ false → run_book (queue d) m ≡ undone refusals.BadValue
  unfolding queue run
  queue_damaged e = ap (λ (t : Bool). run_book (tested t) m) e

  pub queue_taken : (r : Result SoundBook Refusal) → sound_delivery d ≡ true → run_book (step (note (enqueue d))) m ≡ outcome_by tt r → run_book (queue d) m ≡ outcome_by tt r
  unfolding queue
  queue_taken r e h =
      ap (λ (t : Bool). run_book (tested t) m) e ∙ bind_turn (step (note (enqueue d))) (done tt) m
      ∙ then_answer tt tt r (step (note (enqueue d))) m h
