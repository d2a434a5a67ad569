-- What each function on cells answers, and how the answers are what the rules do.
use Rattle.std.specs.Prelude.{◌≡◌, true, false, cond, not, ℕ, ◌+◌, ◌<◌, eqb, length, get_or, set, replicate}
use Rattle.std.proofs.Math.Path.{refl, ap}
use Rattle.std.proofs.Common.{sym, ◌∙◌, arith}
use Rattle.std.proofs.lemmas.Option.{none-some}
use Rattle.std.specs.Result.{result_ok, result_map_both}
use Rattle.std.proofs.Math.Bool.{Bool}
use mathlib.Core.List.{List, [], ◌∷◌, ◌++◌, map}
use Rattle.std.proofs.Math.Dec.{ltb}
use Rattle.base_lists.specs.Lists.{distinctb, push_new}
use Rattle.base_lists.specs.Laws.{filter_length}
use Rattle.book.specs.Zero.{zero_submitted, zero_delivery}
use Rattle.book.specs.Model.{Book, view, back, id_cells}
use Rattle.book.specs.Sound.{id_of, sound_delivery}
use Rattle.book.specs.SoundLaws.{Fits, Counted}
use Rattle.book.specs.declared.Ids.{Ids}
use Rattle.book.specs.declared.SubmittedTx.{SubmittedTx}
use Rattle.book.specs.declared.AttemptSlots.{AttemptSlots}
use Rattle.book.specs.declared.PendingDelivery.{PendingDelivery}
use Rattle.book.specs.declared.ReplayEpoch.{ReplayEpoch}
use Rattle.book.specs.declared.BookData.{BookData}
use Rattle.rules.specs.Keyed.{without}
use Rattle.rules.specs.Rule.{Revision, enqueue, unqueue, unqueue_all, unretire_all, retire}
use Rattle.rules.specs.Steps.{with_submitted, with_entry, with_slots, rest_of, with_rest, note_book, revise_book, mark_book, remove_book}
use Rattle.rules.specs.Steps.Entry.{revised}
use Rattle.rules.specs.Steps.Notes.{is_id, with_pending, with_retired, noted, unqueued, unreplayed, forgotten}
use Rattle.part_ids.specs.Ids.{push_within}
use Rattle.part_ids.specs.Counted.{counted_none, counted_set, counted_push}
use Rattle.part_ids.specs.IdLaws.{counted_ids, ids_counted}
use Rattle.part_replay.specs.Epoch as Epoch
use Rattle.part_replay.specs.Epoch.{replayed_of, removed}
use Rattle.part_lookup.specs.Normal.{Normal, view_of, normal_of, sizes, submitted_are, pending_are, replayed_are}
use Rattle.part_lookup.specs.PlaceLaws.{change_at}
use Rattle.std.specs.Prelude.{Result, Ok, Err}
use Rattle.book.specs.declared.refusal.Refusal.{Refusal}
use Rattle.book.specs.declared.refusal.Refusal.TheVariants as refusals
use Rattle.part_change.specs.Changes.{stored_at, with_epoch_of, retiring}
use Rattle.part_change.specs.Parts.{put_cells, put_pending, put_rest, cells_back, pending_back, retired_back, epoch_back}

-- what stays where the entries of an id go
abbrev pub not_for : ℕ → PendingDelivery → Bool
not_for i d = not (is_id i d.intent.id)

abbrev pub not_is : ℕ → SubmittedTx → Bool
not_is i t = not (eqb (id_of t) i)

-- ---- loops over the book's own cells: nothing but these cells has changed
pub same_cells : (b out : BookData) {n k : ℕ} {cs : List SubmittedTx} (ts : List SubmittedTx) → out ≡ put_cells n cs b → put_cells k ts out ≡ put_cells k ts b
same_cells b out {k = k} ts e = ap (put_cells k ts) e

module _ (b : BookData) (h : Normal b) where
  pub drop_is : (i n : ℕ) (cs : List SubmittedTx) → Counted 16 zero_submitted n cs (without id_of i (view b).submitted) → put_cells n cs b ≡ back (with_submitted (without id_of i (view b).submitted) (view b))
  drop_is i n cs c = cells_back b h n cs (without id_of i (view b).submitted) c

  pub store_is : (k : ℕ) (t : SubmittedTx) → k < length (view b).submitted → put_cells b.submitted_count (set b.submitted k t) b ≡ back (stored_at k t (view b))
  store_is k t l = cells_back b h b.submitted_count (set b.submitted k t) (set (view b).submitted k t) (counted_set (submitted_are b h) k t l)

  pub enqueue_is : (d : PendingDelivery) → b.pending_count < 16 → sound_delivery d ≡ true
      → put_pending (b.pending_count + 1) (set b.pending_deliveries b.pending_count d) b ≡ back (note_book (enqueue d) (view b))
  unfolding note_book noted
  enqueue_is d l s =
      pending_back b h (b.pending_count + 1) (set b.pending_deliveries b.pending_count d) ((view b).pending ++ d ∷ []) (counted_push (pending_are b h) d l)
      ∙ ap (λ (t : Bool). back (with_rest (with_pending (cond t ((view b).pending ++ d ∷ []) (view b).pending) (rest_of (view b))) (view b))) (sym s)

  pub clear_is : {z : PendingDelivery} → z ≡ zero_delivery → put_pending 0 (replicate 16 z) b ≡ back (note_book unqueue_all (view b))
  unfolding note_book noted
  clear_is {z} e = ap (λ (y : PendingDelivery). put_pending 0 (replicate 16 y) b) e ∙ pending_back b h 0 (replicate 16 zero_delivery) [] (counted_none 16 zero_delivery)

  pub unqueue_is : (i n : ℕ) (cs : List PendingDelivery) → Counted 16 zero_delivery n cs (unqueued i (view b).pending) → put_pending n cs b ≡ back (note_book (unqueue i) (view b))
  unfolding note_book noted
  unqueue_is i n cs c = pending_back b h n cs (unqueued i (view b).pending) c

  pub unretire_is : {x : Ids 64} → x ≡ id_cells 64 [] → put_rest x b.replay_epoch b ≡ back (note_book unretire_all (view b))
  unfolding note_book noted
  unretire_is {x} e = retired_back b h x [] (counted_ids x [] e)

  -- a retirement: full, or the list with the id once
  module _ (i : ℕ) {p : Result (Unit {0}) Refusal} (q : p ≡ cond (ltb 64 (length (push_new (view b).retired i))) (Err refusals.Full) (Ok tt)) where
    abbrev over : Bool
    over = ltb 64 (length (push_new (view b).retired i))

    abbrev next : BookData
    next = back (note_book (retire i) (view b))

    pub retire_full : {n : Refusal} → p ≡ Err n → Err n ≡ retiring i (view b)
    unfolding retiring
    retire_full w = ap (result_map_both (λ (u : Unit {0}). next) (λ (r : Refusal). r)) (sym w ∙ q) ∙ go over
      where
        go : (t : Bool) → result_map_both (λ (u : Unit {0}). next) (λ (r : Refusal). r) (cond t (Err refusals.Full) (Ok tt)) ≡ cond t (Err refusals.Full) (Ok next)
        go true = refl
        go false = refl

    pub retire_is : {u : Unit {0}} → p ≡ Ok u → {x : Ids 64} → x ≡ id_cells 64 (push_within 64 (view b).retired i) → Ok (put_rest x b.replay_epoch b) ≡ retiring i (view b)
    unfolding retiring push_within note_book noted
    retire_is {u} w {x} k = go over (sym w ∙ q) k
      where
        put : put_rest (id_cells 64 (push_new (view b).retired i)) b.replay_epoch b ≡ next
        put = retired_back b h (id_cells 64 (push_new (view b).retired i)) (push_new (view b).retired i) (record { count = refl; held = refl })

        go : (t : Bool) → Ok u ≡ cond t (Err refusals.Full) (Ok tt) → x ≡ id_cells 64 (cond t (view b).retired (push_new (view b).retired i))
            → Ok (put_rest x b.replay_epoch b) ≡ cond t (Err refusals.Full) (Ok next)
        go true e k = absurd (none-some u (ap result_ok (sym e)))
        go false e k = ap {B = Result BookData Refusal} (λ (y : BookData). Ok y) (ap (λ (y : Ids 64). put_rest y b.replay_epoch b) k ∙ put)

-- ---- removal: what is left fits, step by step
module _ (i : ℕ) (m : Book) (f : Fits m) where
  pub dropped_fits : Fits (with_submitted (without id_of i m.submitted) m)
  unfolding without
  dropped_fits = record {
    submitted = let l = filter_length (not_is i) m.submitted in let k = f.submitted in omega arith;
    pending = f.pending;
    retired = f.retired;
    replayed = f.replayed;
  }

  pub unqueued_fits : Fits (note_book (unqueue i) m)
  unfolding note_book noted unqueued
  unqueued_fits = record {
    submitted = f.submitted;
    pending = let l = filter_length (not_for i) m.pending in let k = f.pending in omega arith;
    retired = f.retired;
    replayed = f.replayed;
  }

-- submission, queue entries, replay mark
pub remove_is : (i : ℕ) (m : Book) → let d = note_book (unqueue i) (with_submitted (without id_of i m.submitted) m) in with_epoch_of d.rollback (unreplayed i d.replayed) d ≡ remove_book i m
unfolding note_book noted remove_book forgotten
remove_is i m = refl

-- the epoch of a normal book is normal
pub epoch_normal : (b : BookData) → Normal b → Epoch.Normal b.replay_epoch
unfolding view
epoch_normal b h = record {
  count = (sizes b h).replayed;
  held = ids_counted b.replay_epoch.replayed_submission_ids (replayed_of b.replay_epoch) (replayed_are b h);
}

-- the book without the submission, without its queue entries, and without its replay mark
module _ (i : ℕ) (b : BookData) (h : Normal b) where
  abbrev pub dropped : Book
  dropped = with_submitted (without id_of i (view b).submitted) (view b)

  module _ (k : BookData) (e : k ≡ back dropped) where
    pub dropped_normal : Normal k
    dropped_normal = normal_of dropped e (dropped_fits i (view b) h.fits)

    module _ (q : BookData) (f : q ≡ back (note_book (unqueue i) (view k))) where
      unqueued_is : q ≡ back (note_book (unqueue i) dropped)
      unqueued_is = f ∙ ap (λ (m : Book). back (note_book (unqueue i) m)) (view_of dropped e)

      pub unqueued_normal : Normal q
      unqueued_normal = normal_of (note_book (unqueue i) dropped) unqueued_is (unqueued_fits i dropped (dropped_fits i (view b) h.fits))

      pub removed_is : (x : ReplayEpoch) → x ≡ removed q.replay_epoch i → put_rest q.retired_submission_ids x q ≡ back (remove_book i (view b))
      unfolding view
      removed_is x r =
          ap (λ (y : ReplayEpoch). put_rest q.retired_submission_ids y q) r
          ∙ epoch_back q unqueued_normal (removed q.replay_epoch i) (unreplayed i (replayed_of q.replay_epoch)) (record { count = refl; held = refl })
          ∙ ap (λ (m : Book). back (with_epoch_of m.rollback (unreplayed i m.replayed) m)) (view_of (note_book (unqueue i) dropped) unqueued_is)
          ∙ ap back (remove_is i (view b))

-- ---- by id: what the rules do to the submission of an id is a store at its place
module _ (m : Book) (distinct : distinctb (map id_of m.submitted) ≡ true) (i k : ℕ) (within : k < length m.submitted) (here : id_of (get_or m.submitted k zero_submitted) ≡ i) where
  abbrev there : SubmittedTx
  there = get_or m.submitted k zero_submitted

  pub revise_at : (r : Revision) → revise_book i r m ≡ stored_at k (with_entry (revised r) there) m
  unfolding revise_book
  revise_at r = ap (λ (ts : List SubmittedTx). with_submitted ts m) (change_at id_of m.submitted distinct i k zero_submitted within here (with_entry (revised r)))

  pub mark_at : (g : AttemptSlots → AttemptSlots) → mark_book g i m ≡ stored_at k (with_slots g there) m
  unfolding mark_book
  mark_at g = ap (λ (ts : List SubmittedTx). with_submitted ts m) (change_at id_of m.submitted distinct i k zero_submitted within here (with_slots g))
