-- Marking one submission as replayed and opening it again: the two steps on the cells, and what they leave.
use Rattle.std.specs.Prelude.{ℕ, ◌≤◌, ◌<◌, Bool, ◌&&◌, ◌≡◌, get_or}
use Rattle.std.proofs.Math.Bool.{true, false, cond, not}
use mathlib.Core.List.{List, [], map}
use Rattle.std.proofs.Math.Path.{refl, ap}
use Rattle.std.proofs.Common.{sym, ◌∙◌, eqb-true}
use native.Mathlib.Omega.{arith}
use Rattle.std.proofs.Math.ListN.{length}
use Rattle.base_lists.specs.Lists.{elemb, insert_up}
use Rattle.base_lists.specs.Laws.{take_cells}
use Rattle.book.specs.declared.BookData.{BookData}
use Rattle.book.specs.declared.SubmittedEntry.{SubmittedEntry}
use Rattle.book.specs.declared.SubmittedTx.{SubmittedTx}
use Rattle.book.specs.Model.{Book, view, back}
use Rattle.book.specs.Sound.{id_of, soundb}
use Rattle.book.specs.SoundLaws.{sound, back_view}
use Rattle.book.specs.Zero.{zero_submitted}
use Rattle.rules.specs.Rule.{Rule, done, reopen, revise, replay, step, ◌>>◌, ended, run}
use Rattle.rules.specs.Steps.{with_submitted, with_entry, with_rest, rest_of, revise_book, replay_book, on_book, run_book}
use Rattle.rules.specs.Steps.Entry.{revised}
use Rattle.rules.specs.Steps.Notes.{with_epoch, replayed_with}
use Rattle.part_ids.specs.Ids.{insert_new}
use Rattle.part_replay.specs.Epoch as Epoch
use Rattle.part_replay.specs.Epoch.{replayed_of, epoch, marked}
use Rattle.part_replay.specs.EpochLaws.{normal_epoch}
use Rattle.part_replay.specs.declared.Marked.{Marked}
use Rattle.std.specs.Prelude.{Some, None}
use Rattle.part_lookup.specs.Place.{place_of_id, has_id}
use Rattle.part_lookup.specs.PlaceLaws.{at_first, first_passes, any_placed, none_any, any_key, absent_change}
use Rattle.part_change.specs.Changes.{stored_at, with_epoch_of}
use Rattle.part_change.specs.ChangeLaws.{revise_at}
use Rattle.part_sound_laws.specs.Acts.{act_silent}
use Rattle.part_sound_laws.specs.Holds.{Holds, holds_sound, holds_view, holds_soundb, holds_quiet, sound_stepped}

-- `mark_each` of one id that was not marked before
abbrev pub mark_one : ℕ → Rule (Unit {0})
mark_one i = step (replay i) >> step (revise i reopen)

-- ---- an id that is retained, or is not
module _ (i : ℕ) (m : Book) where
  pub absent_id : place_of_id i m ≡ None → elemb i (map id_of m.submitted) ≡ false
  absent_id e = sym (any_key id_of i m.submitted) ∙ none_any (has_id i) m.submitted e

  pub present_id : {k : ℕ} → place_of_id i m ≡ Some k → elemb i (map id_of m.submitted) ≡ true
  present_id e = sym (any_key id_of i m.submitted) ∙ any_placed (has_id i) m.submitted e

  replay_absent : place_of_id i m ≡ None → replay_book i m ≡ m
  unfolding replay_book replayed_with
  replay_absent e = ap (λ (t : Bool). with_rest (with_epoch m.rollback (cond (t && not (elemb i m.replayed)) (insert_up i m.replayed) m.replayed) (rest_of m)) m) (absent_id e)

  revise_absent : place_of_id i m ≡ None → revise_book i reopen m ≡ m
  unfolding revise_book
  revise_absent e = ap (λ (ts : List SubmittedTx). with_submitted ts m) (absent_change id_of i (with_entry (revised reopen)) m.submitted (absent_id e))

  -- the replayed ids of a retained one
  replay_present : elemb i (map id_of m.submitted) ≡ true → replay_book i m ≡ with_epoch_of m.rollback (insert_new i m.replayed) m
  unfolding replay_book replayed_with
  replay_present e =
      ap (λ (t : Bool). with_epoch_of m.rollback (cond (t && not (elemb i m.replayed)) (insert_up i m.replayed) m.replayed) m) e
      ∙ ap (λ (is : List ℕ). with_epoch_of m.rollback is m) (go (elemb i m.replayed))
    where
      go : (t : Bool) → cond (not t) (insert_up i m.replayed) m.replayed ≡ cond t m.replayed (insert_up i m.replayed)
      go true = refl
      go false = refl

-- ---- the two steps on a sound book
module _ (b : BookData) (h : soundb b ≡ true) (i : ℕ) where
  pub replay_none : place_of_id i (view b) ≡ None → b ≡ back (replay_book i (view b))
  replay_none e = sym (ap back (replay_absent i (view b) e) ∙ back_view b h)

  pub revise_none : place_of_id i (view b) ≡ None → b ≡ back (revise_book i reopen (view b))
  revise_none e = sym (ap back (revise_absent i (view b) e) ∙ back_view b h)

  module _ {k : ℕ} (e : place_of_id i (view b) ≡ Some k) where
    -- there is room for the mark, since the book stays sound
    pub mark_room : length (insert_new i (replayed_of b.replay_epoch)) ≤ 16
    unfolding on_book view
    mark_room =
        let f : length (replay_book i (view b)).replayed ≤ 16 = (sound_stepped (replay i) (view b) (holds_sound b h).sound refl).fits.replayed in
        let l : length (replay_book i (view b)).replayed ≡ length (insert_new i (replayed_of b.replay_epoch)) = ap (λ (m : Book). length m.replayed) (replay_present i (view b) (present_id i (view b) e)) in
        omega arith

    pub epoch_marked : {x : Marked} → x ≡ marked b.replay_epoch i → Epoch.Normal x.epoch
    epoch_marked {x} q = rw q (normal_epoch b.replay_epoch.rollback_height (insert_new i (replayed_of b.replay_epoch)) mark_room)

    pub replay_some : {x : Marked} → x ≡ marked b.replay_epoch i → {r : BookData} → r ≡ back (with_epoch_of x.epoch.rollback_height (replayed_of x.epoch) (view b)) → r ≡ back (replay_book i (view b))
    unfolding view
    replay_some {x} q {r} s =
        s ∙ ap (λ (y : Marked). back (with_epoch_of y.epoch.rollback_height (replayed_of y.epoch) (view b))) q
        ∙ ap (λ (is : List ℕ). back (with_epoch_of (view b).rollback is (view b))) (take_cells 16 0 (insert_new i (view b).replayed))
        ∙ ap back (sym (replay_present i (view b) (present_id i (view b) e)))

    pub revise_within : k < length (view b).submitted
    revise_within = (at_first (has_id i) (view b).submitted e).within

    pub revise_some : {t : SubmittedTx} → t ≡ get_or (view b).submitted k zero_submitted → {y : SubmittedEntry} → y ≡ revised reopen t.entry
        → {r : BookData} → r ≡ back (stored_at k (record { slots = t.slots; entry = y }) (view b)) → r ≡ back (revise_book i reopen (view b))
    revise_some {t} at {y} is {r} s =
        let f = at_first (has_id i) (view b).submitted e in
        s ∙ ap (λ (z : SubmittedEntry). back (stored_at k (record { slots = t.slots; entry = z }) (view b))) is
        ∙ ap (λ (u : SubmittedTx). back (stored_at k (with_entry (revised reopen) u) (view b))) at
        ∙ ap back (sym (revise_at (view b) (sound b h).lists.ids i k f.within (eqb-true (id_of (get_or (view b).submitted k zero_submitted)) i (first_passes (has_id i) (view b).submitted zero_submitted f)) reopen))

  -- each step leaves a sound book
  module _ {q : BookData} (s : q ≡ back (revise_book i reopen (view b))) where
    pub revised_sound : soundb q ≡ true
    unfolding on_book
    revised_sound = holds_soundb (holds_quiet (holds_sound b h) (revise i reopen) refl s)

  module _ {q : BookData} (s : q ≡ back (replay_book i (view b))) where
    replayed_holds : Holds q (replay_book i (view b))
    unfolding on_book
    replayed_holds = holds_quiet (holds_sound b h) (replay i) refl s

    pub replayed_sound : soundb q ≡ true
    replayed_sound = holds_soundb replayed_holds

    -- and then the second
    module _ {r : BookData} (u : r ≡ back (revise_book i reopen (view q))) where
      opened_holds : Holds r (revise_book i reopen (replay_book i (view b)))
      unfolding on_book
      opened_holds = holds_quiet replayed_holds (revise i reopen) refl u

      pub mark_is : run_book (mark_one i) (view b) ≡ ended (view r) [] tt
      unfolding on_book run
      mark_is =
          act_silent (replay i) (step (revise i reopen)) (view b) refl refl
          ∙ act_silent (revise i reopen) (done tt) (replay_book i (view b)) refl refl
          ∙ ap (λ (m : Book). ended m [] tt) (sym (holds_view opened_holds))
