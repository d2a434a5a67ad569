-- Calls that offer deliveries, with arguments that are bytes: one law for each of their returns, in the order of the checks (1, 2, 3).
use Rattle.std.specs.Prelude.{ℕ, ◌≤◌, ◌<◌, ◌≡◌, true, false, List, [], length}
use Rattle.std.proofs.Common.{sym, ap, ◌∙◌}
use Rattle.std.specs.Prelude.{None, Some}
use borrow.Author.Tests.{le-leb, lt-leb}
use Rattle.book.specs.Model.{view}
use Rattle.book.specs.declared.BookData.{BookData}
use Rattle.book.specs.declared.DeliveryTrigger.{DeliveryTrigger}
use Rattle.book.specs.declared.PendingDelivery.{PendingDelivery}
use Rattle.book.specs.declared.SubmissionDeliveryGoal.{SubmissionDeliveryGoal}
use Rattle.archive_form.specs.Parse.{parse_delivery, parse_trigger, parse_goal}
use Rattle.rules.specs.Calls.Queue.{queue}
use Rattle.rules.specs.Calls.QueueRebroadcastEpoch.{queue_rebroadcast_epoch}
use Rattle.rules.specs.Calls.QueueRetainedDelivery.{queue_retained_delivery}
use Rattle.rules.specs.Doors.{ids_ok}
use Rattle.rules.specs.Rule.{Rule}
use Rattle.rules.specs.Steps.{run_book}
use Rattle.part_replies.specs.Reply.{reply}
use Rattle.part_replies.specs.declared.Reply.{Reply}
use Rattle.book.specs.declared.refusal.Refusal.TheVariants as turned
use Rattle.c_boundary.specs.Arguments.{given, listed, byte_as, bytes_as, gives_book_undo, given_none, given_some, listed_not, listed_well}
use Rattle.c_boundary.specs.Forms.{no_form, gives_book_absent, reply_book, tells_nothing}
use Rattle.c_boundary.specs.Held.{held_in, Holding}
use Rattle.c_boundary.specs.Settle.{boundary, GivesBook, gives_book_as, finish, coded}

-- ---- the rules of each call behind its arguments
abbrev pub queueing : (delivery : List ℕ) → Rule (Unit {0})
queueing delivery = given (bytes_as parse_delivery delivery) queue

abbrev pub offering : (id goal : ℕ) → DeliveryTrigger → Rule (Unit {0})
offering id goal t = given (byte_as parse_goal goal) (λ g. queue_retained_delivery id t g)

abbrev pub delivering : (id trigger goal : ℕ) → Rule (Unit {0})
delivering id trigger goal = given (byte_as parse_trigger trigger) (offering id goal)

abbrev pub triggered : (ids : List ℕ) (trigger : ℕ) → Rule (Unit {0})
triggered ids trigger = given (byte_as parse_trigger trigger) (λ t. queue_rebroadcast_epoch ids t)

abbrev pub rebroadcasting : (ids : List ℕ) (trigger : ℕ) → Rule (Unit {0})
rebroadcasting ids trigger = listed (ids_ok ids) (triggered ids trigger)

-- the rules in another form
by : (d : List ℕ) {n : ℕ} {d' : List ℕ} {x y : Rule (Unit {0})} → x ≡ y → GivesBook (boundary no_form y d []) n d' → GivesBook (boundary no_form x d []) n d'
by d e g = gives_book_as (ap (λ (z : Rule (Unit {0})). boundary no_form z d []) (sym e)) g

-- ---- queue
module _ (d delivery : List ℕ) where
  abbrev Queued : ℕ → List ℕ → Type 0
  Queued n d' = GivesBook (boundary no_form (queueing delivery) d []) n d'

  pub queue_absent : held_in d ≡ None → Queued 1 d
  queue_absent e = gives_book_absent no_form (queueing delivery) d e

  module _ (b : BookData) (h : Holding d b) where
    pub queue_bad : bytes_as parse_delivery delivery ≡ None → Queued 3 d
    queue_bad e = gives_book_undo turned.BadValue no_form d b h (queueing delivery) (given_none queue e)

    pub queue_done : {v : PendingDelivery} {n : ℕ} {d' : List ℕ} (r : Reply (Unit {0}) BookData) → bytes_as parse_delivery delivery ≡ Some v
        → r ≡ reply b (run_book (queue v) (view b)) → GivesBook (finish (coded (λ _. []) r.answer) r.book d []) n d' → Queued n d'
    queue_done {v} r e q g = by d (given_some queue e) (reply_book tells_nothing d [] b h (queue v) q g)

-- ---- queue_retained_delivery
module _ (d : List ℕ) (id trigger goal : ℕ) where
  abbrev Delivered : ℕ → List ℕ → Type 0
  Delivered n d' = GivesBook (boundary no_form (delivering id trigger goal) d []) n d'

  pub delivery_absent : held_in d ≡ None → Delivered 1 d
  delivery_absent e = gives_book_absent no_form (delivering id trigger goal) d e

  module _ (b : BookData) (h : Holding d b) where
    pub trigger_bad : byte_as parse_trigger trigger ≡ None → Delivered 3 d
    trigger_bad e = gives_book_undo turned.BadValue no_form d b h (delivering id trigger goal) (given_none (offering id goal) e)

    module _ {t : DeliveryTrigger} (e : byte_as parse_trigger trigger ≡ Some t) where
      pub goal_bad : byte_as parse_goal goal ≡ None → Delivered 3 d
      goal_bad f =
          gives_book_undo turned.BadValue no_form d b h (delivering id trigger goal)
          (given_some (offering id goal) e ∙ given_none (λ (g : SubmissionDeliveryGoal). queue_retained_delivery id t g) f)

      pub delivery_done : {g : SubmissionDeliveryGoal} {n : ℕ} {d' : List ℕ} (r : Reply (Unit {0}) BookData) → byte_as parse_goal goal ≡ Some g
          → r ≡ reply b (run_book (queue_retained_delivery id t g) (view b)) → GivesBook (finish (coded (λ _. []) r.answer) r.book d []) n d' → Delivered n d'
      delivery_done {g} r f q x =
          by d (given_some (offering id goal) e ∙ given_some (λ (k : SubmissionDeliveryGoal). queue_retained_delivery id t k) f)
          (reply_book tells_nothing d [] b h (queue_retained_delivery id t g) q x)

-- ---- queue_rebroadcast_epoch
module _ (d ids : List ℕ) (trigger : ℕ) where
  abbrev Rebroadcast : ℕ → List ℕ → Type 0
  Rebroadcast n d' = GivesBook (boundary no_form (rebroadcasting ids trigger) d []) n d'

  pub epoch_absent : held_in d ≡ None → Rebroadcast 1 d
  epoch_absent e = gives_book_absent no_form (rebroadcasting ids trigger) d e

  few : length ids ≤ 64 → ids_ok ids ≡ true
  unfolding ids_ok
  few h = le-leb (length ids) 64 h

  many : 64 < length ids → ids_ok ids ≡ false
  unfolding ids_ok
  many h = lt-leb (length ids) 64 h

  module _ (b : BookData) (h : Holding d b) where
    pub epoch_long : 64 < length ids → Rebroadcast 2 d
    epoch_long k = gives_book_undo turned.BadList no_form d b h (rebroadcasting ids trigger) (listed_not (triggered ids trigger) (many k))

    pub epoch_bad : length ids ≤ 64 → byte_as parse_trigger trigger ≡ None → Rebroadcast 3 d
    epoch_bad k e =
        gives_book_undo turned.BadValue no_form d b h (rebroadcasting ids trigger)
        (listed_well (triggered ids trigger) (few k) ∙ given_none (λ (t : DeliveryTrigger). queue_rebroadcast_epoch ids t) e)

    pub epoch_done : {t : DeliveryTrigger} {n : ℕ} {d' : List ℕ} (r : Reply (Unit {0}) BookData) → length ids ≤ 64 → byte_as parse_trigger trigger ≡ Some t
        → r ≡ reply b (run_book (queue_rebroadcast_epoch ids t) (view b)) → GivesBook (finish (coded (λ _. []) r.answer) r.book d []) n d' → Rebroadcast n d'
    epoch_done {t} r k e q g =
        by d (listed_well (triggered ids trigger) (few k) ∙ given_some (λ (i : DeliveryTrigger). queue_rebroadcast_epoch ids i) e)
        (reply_book tells_nothing d [] b h (queue_rebroadcast_epoch ids t) q g)
