-- What the rules of `queue_rebroadcast_epoch` come to, by the tests of the code.
use Rattle.std.specs.Prelude.{ℕ, ◌≤◌, ◌<◌, Bool, cond, ◌≡◌, refl, length}
use mathlib.Core.List.{List, []}
use Rattle.std.proofs.Math.Path.{ap}
use Rattle.std.proofs.Common.{◌∙◌, le-leb, eqb-true}
use Rattle.std.proofs.Math.ListN.{get_or}
use Rattle.std.proofs.lemmas.Bool.{lt-leb}
use Rattle.book.specs.declared.BookData.{BookData}
use Rattle.book.specs.declared.DeliveryTrigger.{DeliveryTrigger}
use Rattle.book.specs.declared.SubmittedTx.{SubmittedTx}
use Rattle.book.specs.Model.{Book, view}
use Rattle.book.specs.Sound.{id_of}
use Rattle.book.specs.Zero.{zero_submitted}
use Rattle.std.specs.Prelude.{Some, None}
use Rattle.part_lookup.specs.Place.{place_of_id, has_id}
use Rattle.part_lookup.specs.PlaceLaws.{at_first, first_filter, first_passes, none_passes}
use Rattle.rules.specs.Doors.{ids_ok}
use Rattle.rules.specs.Keyed.{pick}
use Rattle.rules.specs.Rule.{Rule, undo, book, ◌>>=◌, ended, undone, run}
use Rattle.rules.specs.Steps.{run_book}
use Rattle.rules.specs.Calls.Offer.{offer, goal_for}
use Rattle.rules.specs.Calls.QueueRebroadcastEpoch.{rebroadcast_of, rebroadcast, queue_rebroadcast_epoch}
use Rattle.part_sound_laws.specs.Outcomes.{Each, bind_turn}
use Rattle.book.specs.declared.refusal.Refusal.TheVariants as refusals

-- one id of the list
abbrev pub rebroadcast_one : DeliveryTrigger → ℕ → Rule (Unit {0})
rebroadcast_one trigger i = book >>= (λ b. rebroadcast_of trigger (pick id_of i b.submitted))

pub rebroadcast_each : (trigger : DeliveryTrigger) → Each (rebroadcast trigger) (rebroadcast_one trigger) tt
unfolding rebroadcast
rebroadcast_each trigger = record { none = refl; more = λ i is m. bind_turn (rebroadcast_one trigger i) (rebroadcast trigger is) m }

module _ (b : BookData) (trigger : DeliveryTrigger) (i : ℕ) where
  pub rebroadcast_absent : place_of_id i (view b) ≡ None → run_book (rebroadcast_one trigger i) (view b) ≡ ended (view b) [] tt
  unfolding pick run
  rebroadcast_absent e = ap (λ (ts : List SubmittedTx). run_book (rebroadcast_of trigger ts) (view b)) (none_passes (has_id i) (view b).submitted e)

  pub rebroadcast_at : (k : ℕ) → place_of_id i (view b) ≡ Some k
      → run_book (rebroadcast_one trigger i) (view b) ≡ run_book (offer i trigger (goal_for (get_or (view b).submitted k zero_submitted).entry)) (view b)
  unfolding pick run
  rebroadcast_at k e =
      let f = at_first (has_id i) (view b).submitted e in
      let t = get_or (view b).submitted k zero_submitted in
      ap (λ (ts : List SubmittedTx). run_book (rebroadcast_of trigger ts) (view b)) (first_filter (has_id i) (view b).submitted zero_submitted f)
      ∙ ap (λ (j : ℕ). run_book (offer j trigger (goal_for t.entry)) (view b)) (eqb-true (id_of t) i (first_passes (has_id i) (view b).submitted zero_submitted f))

module _ (is : List ℕ) (trigger : DeliveryTrigger) (m : Book) where
  pub epoch_long : 64 < length is → run_book (queue_rebroadcast_epoch is trigger) m ≡ undone refusals.BadList
  unfolding queue_rebroadcast_epoch ids_ok run
  epoch_long l = ap (λ (t : Bool). run_book (cond t (rebroadcast trigger is) (undo refusals.BadList)) m) (lt-leb (length is) 64 l)

  pub epoch_taken : length is ≤ 64 → run_book (queue_rebroadcast_epoch is trigger) m ≡ run_book (rebroadcast trigger is) m
  unfolding queue_rebroadcast_epoch ids_ok
  epoch_taken l = ap (λ (t : Bool). run_book (cond t (rebroadcast trigger is) (undo refusals.BadList)) m) (le-leb (length is) 64 l)
