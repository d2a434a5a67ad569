-- Halting the submission at a place, and making it Active again: what the rules do, and what the cells are then.
use Rattle.std.specs.Prelude.{◌≡◌, Bool, true, false, cond, not, ℕ, ◌+◌, ◌≤◌, ◌<◌, eqb, length, set, drop, Result, Ok, Err}
use Rattle.std.proofs.Math.Path.{refl, ap, subst}
use Rattle.std.proofs.Common.{sym, ◌∙◌, arith, length-set, drop-set-lt}
use mathlib.Core.List.{List, [], ◌∷◌, map}
use Rattle.std.proofs.Math.ListN.{get_or}
use Rattle.base_lists.specs.Lists.{distinctb}
use Rattle.base_lists.specs.Laws.{filter_length, take_cells}
use Rattle.book.specs.Zero.{zero_submitted}
use Rattle.book.specs.Model.{Book, view, back}
use Rattle.book.specs.Sound.{id_of, soundb}
use Rattle.book.specs.SoundLaws.{Fits}
use Rattle.book.specs.declared.BookData.{BookData}
use Rattle.book.specs.declared.ReplayEpoch.{ReplayEpoch}
use Rattle.book.specs.declared.SubmissionChainTerminality.{SubmissionChainTerminality}
use Rattle.book.specs.declared.SubmissionChainTerminality.TheVariants.{Active}
use Rattle.book.specs.declared.SubmittedEntry.{SubmittedEntry}
use Rattle.book.specs.declared.SubmittedTx.{SubmittedTx}
use Rattle.rules.specs.Keyed.{change}
use Rattle.rules.specs.Rule.{done, terminality, unqueue, retire, unreplay, note, revise, set_aside, Rule, step, Outcome, ended, undone, logged, guarded, full, run, left, act}
use Rattle.rules.specs.Steps.{with_submitted, with_entry, with_slots, note_book, revise_book, mark_book, on_book, run_book}
use Rattle.rules.specs.Steps.Entry.{revised}
use Rattle.rules.specs.Steps.Notes.{noted, unreplayed}
use Rattle.rules.specs.Steps.Slots.{slots_aside}
use Rattle.rules.specs.Calls.ReconcileChainTerminality.{halt}
use Rattle.rules_laws.specs.Sound.Run.{SoundBook}
use Rattle.part_replay.specs.Epoch as Epoch
use Rattle.part_replay.specs.Epoch.{replayed_of, removed}
use Rattle.part_replay.specs.EpochLaws.{normal_epoch}
use Rattle.part_lookup.specs.Normal.{Normal, view_of, normal_of}
use Rattle.part_lookup.specs.PlaceLaws.{change_at}
use Rattle.part_change.specs.Changes.{stored_at, with_epoch_of, retiring}
use Rattle.part_change.specs.ChangeLaws.{revise_at}
use Rattle.part_sound_laws.specs.Holds.{Holds, holds_sound, holds_view, holds_normal, holds_lists, holds_soundb, holds_step, holds_quiet, sound_stepped}
use Rattle.part_sound_laws.specs.Acts.{logged_none}
use Rattle.part_sound_laws.specs.RetireLaws.{run_full, run_retired, retire_limit, retire_book}
use Rattle.book.specs.declared.refusal.Refusal.{Refusal}

-- the terminality anew, and the live attempt set aside
abbrev pub halted_tx : SubmissionChainTerminality → SubmittedTx → SubmittedTx
halted_tx c t = with_slots slots_aside (with_entry (revised (terminality c)) t)

abbrev pub reactivate_rule : ℕ → Rule (Unit {0})
reactivate_rule i = step (revise i (terminality Active))

-- ---- the submissions behind the place k are as before
pub record Later (k : ℕ) (m n : Book) : Type 0 where
  pub count : length n.submitted ≡ length m.submitted
  pub later : drop (k + 1) n.submitted ≡ drop (k + 1) m.submitted

pub later_same : (k : ℕ) (m : Book) → Later k m m
later_same k m = record { count = refl; later = refl }

-- a store at k
later_store : (k : ℕ) (m n : Book) (u : SubmittedTx) → n.submitted ≡ set m.submitted k u → Later k m n
later_store k m n u v = record {
  count = ap length v ∙ length-set m.submitted k u;
  later = ap (drop (k + 1)) v ∙ drop-set-lt (k + 1) m.submitted k u (omega arith);
}

-- ---- halting, on lists
-- two changes of one element are one
change_twice : {A : Type 0} (key : A → ℕ) (i : ℕ) (f g : A → A) → ((x : A) → key (f x) ≡ key x) → (xs : List A) → change key i g (change key i f xs) ≡ change key i (λ x. g (f x)) xs
unfolding change
change_twice key i f g keeps [] = refl
change_twice {A} key i f g keeps (x ∷ xs) = λ j. go (eqb (key x) i) refl j ∷ change_twice key i f g keeps xs j
  where
    go : (t : Bool) → eqb (key x) i ≡ t → cond (eqb (key (cond t (f x) x)) i) (g (cond t (f x) x)) (cond t (f x) x) ≡ cond t (g (f x)) x
    go true e = ap (λ (t : Bool). cond t (g (f x)) (f x)) (ap (λ (n : ℕ). eqb n i) (keeps x) ∙ e)
    go false e = ap (λ (t : Bool). cond t (g x) x) e

abbrev pub halted_book : ℕ → SubmissionChainTerminality → Book → Book
halted_book i c m = mark_book slots_aside i (note_book (unqueue i) (note_book (unreplay i) (revise_book i (terminality c) m)))

module _ (i : ℕ) (c : SubmissionChainTerminality) (m : Book) where
  abbrev retired_book : Book
  retired_book = note_book (retire i) (halted_book i c m)

  -- the first four steps are never refused
  halt_retires : run_book (halt i c) m ≡ run_book (act (note (retire i)) (done tt)) (halted_book i c m)
  unfolding run halt on_book
  halt_retires =
      let o = run_book (act (note (retire i)) (done tt)) (halted_book i c m) in
      logged_none (logged [] (logged [] (logged [] o))) ∙ logged_none (logged [] (logged [] o)) ∙ logged_none (logged [] o) ∙ logged_none o

  halted_sound : SoundBook m → SoundBook (halted_book i c m)
  unfolding on_book
  halted_sound s =
      let s1 = sound_stepped (revise i (terminality c)) m s refl in
      let s2 = sound_stepped (note (unreplay i)) (revise_book i (terminality c) m) s1 refl in
      let s3 = sound_stepped (note (unqueue i)) (note_book (unreplay i) (revise_book i (terminality c) m)) s2 refl in
      sound_stepped (set_aside i) (note_book (unqueue i) (note_book (unreplay i) (revise_book i (terminality c) m))) s3 refl

  module _ (distinct : distinctb (map id_of m.submitted) ≡ true) (k : ℕ) (within : k < length m.submitted) (here : id_of (get_or m.submitted k zero_submitted) ≡ i) where
    -- both changes of the submission are one store at its place
    one_store : change id_of i (with_slots slots_aside) (change id_of i (with_entry (revised (terminality c))) m.submitted) ≡ set m.submitted k (halted_tx c (get_or m.submitted k zero_submitted))
    unfolding revised
    one_store =
        change_twice id_of i (with_entry (revised (terminality c))) (with_slots slots_aside) (λ t. refl) m.submitted
        ∙ change_at id_of m.submitted distinct i k zero_submitted within here (halted_tx c)

    halted_submitted : (halted_book i c m).submitted ≡ set m.submitted k (halted_tx c (get_or m.submitted k zero_submitted))
    unfolding mark_book note_book noted revise_book
    halted_submitted = one_store

    -- and come to the same before what else goes
    halted_stored : halted_book i c m ≡ note_book (unqueue i) (note_book (unreplay i) (stored_at k (halted_tx c (get_or m.submitted k zero_submitted)) m))
    unfolding mark_book note_book noted revise_book
    halted_stored = ap (λ (ts : List SubmittedTx). with_submitted ts (note_book (unqueue i) (note_book (unreplay i) m))) one_store

    pub halt_later : Later k m (left m (run_book (halt i c) m))
    unfolding run on_book
    halt_later = subst (λ (o : Outcome Book (Unit {0})). Later k m (left m o)) (sym halt_retires) (go (full retired_book))
      where
        go : (t : Bool) → Later k m (left m (guarded t (logged [] (ended retired_book [] (tt {0})))))
        go true = later_same k m
        go false = later_store k m retired_book (halted_tx c (get_or m.submitted k zero_submitted)) halted_submitted

-- ---- halting, in cells
stored_fits : (k : ℕ) (u : SubmittedTx) (m : Book) → Fits m → Fits (stored_at k u m)
stored_fits k u m f = record { submitted = omega (arith, length-set m.submitted k u, f.submitted); pending = f.pending; retired = f.retired; replayed = f.replayed }

unreplayed_short : (i : ℕ) (is : List ℕ) → length is ≤ 16 → length (unreplayed i is) ≤ 16
unfolding unreplayed
unreplayed_short i is h = omega (arith, filter_length (λ j. not (eqb j i)) is)

unmarked_fits : (i : ℕ) (m : Book) → Fits m → Fits (note_book (unreplay i) m)
unfolding note_book noted
unmarked_fits i m f = record { submitted = f.submitted; pending = f.pending; retired = f.retired; replayed = unreplayed_short i m.replayed f.replayed }

-- the replay mark goes
module _ (b : BookData) (n : Normal b) (i : ℕ) {x : ReplayEpoch} (e : x ≡ removed b.replay_epoch i) where
  abbrev ids : List ℕ
  ids = unreplayed i (replayed_of b.replay_epoch)

  pub removed_normal : Epoch.Normal x
  unfolding view
  removed_normal = subst Epoch.Normal (sym e) (normal_epoch b.replay_epoch.rollback_height ids (unreplayed_short i (replayed_of b.replay_epoch) n.fits.replayed))

  pub unmarked_by : {u : BookData} → u ≡ back (with_epoch_of x.rollback_height (replayed_of x) (view b)) → u ≡ back (note_book (unreplay i) (view b))
  unfolding view note_book noted
  unmarked_by h =
      h
      ∙ ap (λ (y : ReplayEpoch). back (with_epoch_of y.rollback_height (replayed_of y) (view b))) e
      ∙ ap (λ (is : List ℕ). back (with_epoch_of b.replay_epoch.rollback_height is (view b))) (take_cells 16 0 ids)

-- s is the sound book b with t, the submission at k, stored halted
pub record Stored (b : BookData) (k : ℕ) (c : SubmissionChainTerminality) (t : SubmittedTx) (s : BookData) : Type 0 where
  pub sound : soundb b ≡ true
  pub within : k < length (view b).submitted
  pub there : t ≡ get_or (view b).submitted k zero_submitted
  pub is : s ≡ back (stored_at k (halted_tx c t) (view b))

-- the same from what the code's calls answer
pub stored_by : (b : BookData) (k : ℕ) {c : SubmissionChainTerminality} {t u : SubmittedTx} {s : BookData} → soundb b ≡ true → k < length (view b).submitted
    → t ≡ get_or (view b).submitted k zero_submitted → u ≡ halted_tx c t → s ≡ back (stored_at k u (view b)) → Stored b k c t s
stored_by b k h w e p q = record { sound = h; within = w; there = e; is = q ∙ ap (λ (y : SubmittedTx). back (stored_at k y (view b))) p }

module _ {b : BookData} {k : ℕ} {c : SubmissionChainTerminality} {t : SubmittedTx} {s : BookData} (h : Stored b k c t s) where
  abbrev m1 : Book
  m1 = stored_at k (halted_tx c t) (view b)

  abbrev m2 : Book
  m2 = note_book (unreplay (id_of t)) m1

  fits1 : Fits m1
  fits1 = stored_fits k (halted_tx c t) (view b) (holds_sound b h.sound).sound.fits

  -- what is left but the retirement
  all_but : halted_book (id_of t) c (view b) ≡ note_book (unqueue (id_of t)) m2
  all_but =
      halted_stored (id_of t) c (view b) (holds_lists (holds_sound b h.sound)).ids k h.within (ap id_of (sym h.there))
      ∙ ap (λ (u : SubmittedTx). note_book (unqueue (id_of t)) (note_book (unreplay (id_of t)) (stored_at k (halted_tx c u) (view b)))) (sym h.there)

  pub stored_normal : Normal s
  stored_normal = normal_of m1 h.is fits1

  module _ {u : BookData} (ue : u ≡ back (note_book (unreplay (id_of t)) (view s))) where
    unmarked_is : u ≡ back m2
    unmarked_is = ue ∙ ap (λ (m : Book). back (note_book (unreplay (id_of t)) m)) (view_of m1 h.is)

    pub unmarked_normal : Normal u
    unmarked_normal = normal_of m2 unmarked_is (unmarked_fits (id_of t) m1 fits1)

    module _ {q : BookData} (qe : q ≡ back (note_book (unqueue (id_of t)) (view u))) where
      unqueued_is : q ≡ back (note_book (unqueue (id_of t)) m2)
      unqueued_is = qe ∙ ap (λ (m : Book). back (note_book (unqueue (id_of t)) m)) (view_of m2 unmarked_is)

      halted_holds : Holds q (halted_book (id_of t) c (view b))
      halted_holds = record { cells = unqueued_is ∙ ap back (sym all_but); sound = halted_sound (id_of t) c (view b) (holds_sound b h.sound).sound }

      pub unqueued_normal : Normal q
      unqueued_normal = holds_normal halted_holds

      -- the halt's outcome is that of the retirement from q
      halt_as : run_book (halt (id_of (get_or (view b).submitted k zero_submitted)) c) (view b) ≡ run_book (act (note (retire (id_of t))) (done tt)) (halted_book (id_of t) c (view b))
      halt_as = ap (λ (y : SubmittedTx). run_book (halt (id_of y) c) (view b)) (sym h.there) ∙ halt_retires (id_of t) c (view b)

      retired_halted : {r : Result BookData Refusal} → r ≡ retiring (id_of t) (view q) → r ≡ retiring (id_of t) (halted_book (id_of t) c (view b))
      retired_halted e = e ∙ ap (retiring (id_of t)) (holds_view halted_holds)

      pub halt_full : {n : Refusal} → Err n ≡ retiring (id_of t) (view q) → run_book (halt (id_of (get_or (view b).submitted k zero_submitted)) c) (view b) ≡ undone n
      halt_full e = halt_as ∙ run_full (id_of t) (halted_book (id_of t) c (view b)) halted_holds.sound.fits (retired_halted e) (done tt)

      module _ {p : BookData} (e : Ok p ≡ retiring (id_of t) (view q)) where
        kept_holds : Holds p (note_book (retire (id_of t)) (halted_book (id_of t) c (view b)))
        unfolding on_book
        kept_holds =
            holds_step halted_holds (note (retire (id_of t))) (retire_limit (id_of t) (halted_book (id_of t) c (view b)) halted_holds.sound.fits (retired_halted e))
            (retire_book (id_of t) (halted_book (id_of t) c (view b)) halted_holds.sound.fits (retired_halted e)
            ∙ ap (λ (m : Book). back (note_book (retire (id_of t)) m)) (sym (holds_view halted_holds)))

        pub halt_sound : soundb p ≡ true
        halt_sound = holds_soundb kept_holds

        pub halt_on : run_book (halt (id_of (get_or (view b).submitted k zero_submitted)) c) (view b) ≡ ended (view p) [] tt
        unfolding run
        halt_on =
            halt_as ∙ run_retired (id_of t) (halted_book (id_of t) c (view b)) halted_holds.sound.fits (retired_halted e) (done tt)
            ∙ ap (λ (m : Book). ended m [] tt) (sym (holds_view kept_holds))

-- ---- Active again
-- a revision of the submission at k leaves those behind it
pub reactivate_later : (m : Book) → distinctb (map id_of m.submitted) ≡ true → (k : ℕ) → k < length m.submitted → Later k m (left m (run_book (reactivate_rule (id_of (get_or m.submitted k zero_submitted))) m))
unfolding run on_book
reactivate_later m d k within =
    let u = get_or m.submitted k zero_submitted in
    let i = id_of u in
    later_store k m (revise_book i (terminality Active) m) (with_entry (revised (terminality Active)) u) (ap (λ (n : Book). n.submitted) (revise_at m d i k within refl (terminality Active)))

module _ (b : BookData) (sound : soundb b ≡ true) (k : ℕ) (within : k < length (view b).submitted) {t : SubmittedTx} (there : t ≡ get_or (view b).submitted k zero_submitted)
    {e : SubmittedEntry} (ee : e ≡ revised (terminality Active) t.entry) {out : BookData} (oe : out ≡ back (stored_at k (record { slots = t.slots; entry = e }) (view b))) where
  abbrev u : SubmittedTx
  u = get_or (view b).submitted k zero_submitted

  active_holds : Holds out (revise_book (id_of u) (terminality Active) (view b))
  unfolding on_book
  active_holds = holds_quiet (holds_sound b sound) (revise (id_of u) (terminality Active)) refl
      (oe
      ∙ ap (λ (y : SubmittedEntry). back (stored_at k (record { slots = t.slots; entry = y }) (view b))) ee
      ∙ ap (λ (y : SubmittedTx). back (stored_at k (with_entry (revised (terminality Active)) y) (view b))) there
      ∙ ap back (sym (revise_at (view b) (holds_lists (holds_sound b sound)).ids (id_of u) k within refl (terminality Active))))

  pub active_sound : soundb out ≡ true
  active_sound = holds_soundb active_holds

  pub active_on : run_book (reactivate_rule (id_of u)) (view b) ≡ ended (view out) [] tt
  unfolding run on_book
  active_on = ap (λ (n : Book). ended n [] tt) (sym (holds_view active_holds))
