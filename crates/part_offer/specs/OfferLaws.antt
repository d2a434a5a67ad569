-- The answers of `enqueue` and `offer`: one law for each return of the code.
use Rattle.std.specs.Prelude.{ℕ, ◌≤◌, ◌<◌, suc, Bool, true, cond, not, ◌&&◌, ◌≡◌, get_or}
use Rattle.std.proofs.Math.Bool.{false}
use mathlib.Core.List.{List, []}
use Rattle.std.proofs.Math.Path.{refl, ap}
use Rattle.std.proofs.Common.{sym, ◌∙◌, arith}
use Rattle.std.proofs.Math.ListN.{length}
use borrow.Author.Tests.{lt-ltb, le-ltb}
use Rattle.base_lists.specs.Laws.{all_at}
use Rattle.book.specs.declared.BookData.{BookData}
use Rattle.book.specs.declared.DeliveryTrigger.{DeliveryTrigger}
use Rattle.book.specs.declared.PendingDelivery.{PendingDelivery}
use Rattle.book.specs.declared.SubmissionDeliveryGoal.{SubmissionDeliveryGoal}
use Rattle.book.specs.declared.SubmittedTx.{SubmittedTx}
use Rattle.book.specs.Model.{Book, view, back}
use Rattle.book.specs.Sound.{soundb, sound_submitted, sound_delivery}
use Rattle.book.specs.SoundLaws.{sound, sound_submitted_lem}
use Rattle.book.specs.Zero.{zero_submitted}
use Rattle.part_lookup.specs.Normal.{sound_normal, pending_are}
use Rattle.std.specs.Prelude.{Some, None}
use Rattle.part_lookup.specs.Place.{place_of_id, has_id}
use Rattle.part_lookup.specs.PlaceLaws.{at_first, first_filter, none_passes}
use Rattle.rules.specs.Keyed.{pick}
use Rattle.rules.specs.Rule.{done, enqueue, note, step, Rule, ended, undone, full, run}
use Rattle.rules.specs.Steps.{note_book, on_book, run_book}
use Rattle.rules.specs.Calls.Offer.{is_queued, deliverable, redelivery, offer_to, offer}
use Rattle.rules_laws.specs.Guards.Calls.{redelivery_sound}
use Rattle.part_sound_laws.specs.Acts.{act_full, act_silent}
use Rattle.part_sound_laws.specs.Holds.{Holds, holds_sound, holds_view, holds_soundb, holds_step}
use Rattle.part_sound_laws.specs.Room.{full_enqueue}
use Rattle.book.specs.declared.refusal.Refusal.TheVariants as refusals

-- ---- one more entry
module _ (b : BookData) (h : soundb b ≡ true) (d : PendingDelivery) (s : sound_delivery d ≡ true) where
  abbrev queued : Rule (Unit {0})
  queued = step (note (enqueue d))

  pub enqueue_full : b.pending_count ≡ 16 → run_book queued (view b) ≡ undone refusals.Full
  unfolding on_book
  enqueue_full e =
      let c : b.pending_count ≡ length (view b).pending = (pending_are b (sound_normal b h)).count in
      act_full (note (enqueue d)) (done tt) (view b) (full_enqueue (view b) (sound_normal b h).fits d s ∙ lt-ltb 16 (suc (length (view b).pending)) (omega arith))

  pub room : (b.pending_count ≡ 16 → ⊥) → length (view b).pending < 16
  room n = let c : b.pending_count ≡ length (view b).pending = (pending_are b (sound_normal b h)).count in
      let f : length (view b).pending ≤ 16 = (sound_normal b h).fits.pending in
      omega arith

  module _ (n : b.pending_count ≡ 16 → ⊥) {q : BookData} (e : q ≡ back (note_book (enqueue d) (view b))) where
    free : full (note_book (enqueue d) (view b)) ≡ false
    free = let l : length (view b).pending < 16 = room n in
        full_enqueue (view b) (sound_normal b h).fits d s ∙ le-ltb 16 (suc (length (view b).pending)) (omega arith)

    queued_holds : Holds q (note_book (enqueue d) (view b))
    unfolding on_book
    queued_holds = holds_step (holds_sound b h) (note (enqueue d)) free e

    pub enqueue_sound : soundb q ≡ true
    enqueue_sound = holds_soundb queued_holds

    pub enqueue_on : run_book queued (view b) ≡ ended (view q) [] tt
    unfolding on_book run
    enqueue_on = act_silent (note (enqueue d)) (done tt) (view b) free refl ∙ ap (λ (m : Book). ended m [] tt) (sym (holds_view queued_holds))

-- ---- an offer, by the place of the submission and the two tests
module _ (b : BookData) (h : soundb b ≡ true) (i : ℕ) (trigger : DeliveryTrigger) (g : SubmissionDeliveryGoal) where
  pub offer_absent : place_of_id i (view b) ≡ None → run_book (offer i trigger g) (view b) ≡ ended (view b) [] tt
  unfolding offer pick run
  offer_absent e = ap (λ (ts : List SubmittedTx). run_book (offer_to trigger g (is_queued i (view b)) ts) (view b)) (none_passes (has_id i) (view b).submitted e)

  module _ (k : ℕ) (e : place_of_id i (view b) ≡ Some k) where
    abbrev there : SubmittedTx
    there = get_or (view b).submitted k zero_submitted

    pub within : k < length (view b).submitted
    within = (at_first (has_id i) (view b).submitted e).within

    -- the rules at the submission's place
    offer_at : run_book (offer i trigger g) (view b)
        ≡ run_book (cond (not (is_queued i (view b)) && deliverable trigger g there) (step (note (enqueue (redelivery trigger g there.entry)))) (done tt)) (view b)
    unfolding offer pick run
    offer_at = ap (λ (ts : List SubmittedTx). run_book (offer_to trigger g (is_queued i (view b)) ts) (view b)) (first_filter (has_id i) (view b).submitted zero_submitted (at_first (has_id i) (view b).submitted e))

    -- by what the code found there
    module _ {t : SubmittedTx} (at : t ≡ there) {x y : Bool} (queue : x ≡ is_queued i (view b)) (due : y ≡ deliverable trigger g t) where
      tests : (not x && y) ≡ (not (is_queued i (view b)) && deliverable trigger g there)
      tests =
          ap (λ (z : Bool). not z && y) queue ∙ ap (λ (z : Bool). not (is_queued i (view b)) && z) due
          ∙ ap (λ (u : SubmittedTx). not (is_queued i (view b)) && deliverable trigger g u) at

      pub offer_idle : (not x && y) ≡ false → run_book (offer i trigger g) (view b) ≡ ended (view b) [] tt
      unfolding run
      offer_idle e = offer_at ∙ ap (λ (z : Bool). run_book (cond z (step (note (enqueue (redelivery trigger g there.entry)))) (done tt)) (view b)) (sym tests ∙ e)

    module _ {t : SubmittedTx} (at : t ≡ there) {d : PendingDelivery} (is : d ≡ redelivery trigger g t.entry) where
      pub due_sound : sound_delivery d ≡ true
      due_sound =
          ap sound_delivery (is ∙ ap (λ (u : SubmittedTx). redelivery trigger g u.entry) at)
          ∙ redelivery_sound trigger g there.entry (sound_submitted_lem there (all_at sound_submitted (view b).submitted k zero_submitted (sound b h).lists.submitted within)).entry

      pub offer_due : {x y : Bool} → x ≡ is_queued i (view b) → y ≡ deliverable trigger g t → (not x && y) ≡ true → run_book (offer i trigger g) (view b) ≡ run_book (step (note (enqueue d))) (view b)
      offer_due queue due e =
          offer_at
          ∙ ap (λ (z : Bool). run_book (cond z (step (note (enqueue (redelivery trigger g there.entry)))) (done tt)) (view b)) (sym (tests at queue due) ∙ e)
          ∙ ap (λ (c : PendingDelivery). run_book (step (note (enqueue c))) (view b)) (sym (is ∙ ap (λ (u : SubmittedTx). redelivery trigger g u.entry) at))
