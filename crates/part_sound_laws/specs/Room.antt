-- When a step makes a sound book full: 16 submissions, 16 queue entries, 64 retirements.
use Rattle.std.specs.Prelude.{ℕ, suc, Bool, true, false, cond, ◌||◌, [], ◌∷◌, ◌++◌, ◌≡◌, ltb, length}
use Rattle.std.proofs.Math.Bool.{or-false}
use Rattle.std.proofs.Math.Path.{refl, ap}
use Rattle.std.proofs.Common.{◌∙◌, le-ltb}
use Rattle.std.proofs.Math.Numerals.{add-one}
use Rattle.base_lists.specs.Laws.{length_snoc}
use Rattle.base_lists.specs.Lists.{push_new}
use Rattle.book.specs.declared.PendingDelivery.{PendingDelivery}
use Rattle.book.specs.declared.PendingSubmissionIntent.{PendingSubmissionIntent}
use Rattle.book.specs.Model.{Book}
use Rattle.book.specs.Zero.{no_slots}
use Rattle.book.specs.Sound.{sound_delivery}
use Rattle.book.specs.SoundLaws.{Fits}
use Rattle.rules.specs.Rule.{enqueue, retire, full}
use Rattle.rules.specs.Steps.{with_rest, rest_of, note_book, retained}
use Rattle.rules.specs.Steps.Entry.{new_entry}
use Rattle.rules.specs.Steps.Notes.{with_pending, with_retired, noted}

-- the three limits
full_of_lem : (m : Book) {s p r : Bool} → ltb 16 (length m.submitted) ≡ s → ltb 16 (length m.pending) ≡ p → ltb 64 (length m.retired) ≡ r → full m ≡ (s || p || r)
unfolding full
full_of_lem m {s} {p} {r} a b c = rw (a, b, c) refl

module _ (m : Book) (f : Fits m) where
  short_submitted : ltb 16 (length m.submitted) ≡ false
  short_submitted = le-ltb 16 (length m.submitted) f.submitted

  short_pending : ltb 16 (length m.pending) ≡ false
  short_pending = le-ltb 16 (length m.pending) f.pending

  short_retired : ltb 64 (length m.retired) ≡ false
  short_retired = le-ltb 64 (length m.retired) f.retired

  -- the queue
  pub full_enqueue : (d : PendingDelivery) → sound_delivery d ≡ true → full (note_book (enqueue d) m) ≡ ltb 16 (suc (length m.pending))
  unfolding note_book noted
  full_enqueue d s =
      ap (λ (t : Bool). full (with_rest (with_pending (cond t (m.pending ++ d ∷ []) m.pending) (rest_of m)) m)) s
      ∙ full_of_lem (with_rest (with_pending (m.pending ++ d ∷ []) (rest_of m)) m) short_submitted refl short_retired
      ∙ or-false (ltb 16 (length (m.pending ++ d ∷ []))) ∙ ap (ltb 16) (length_snoc m.pending d ∙ add-one (length m.pending))

  -- the retirements
  pub full_retire : (i : ℕ) → full (note_book (retire i) m) ≡ ltb 64 (length (push_new m.retired i))
  unfolding note_book noted
  full_retire i = full_of_lem (with_rest (with_retired (push_new m.retired i) (rest_of m)) m) short_submitted short_pending refl

  -- the submissions
  pub full_retain : (p : PendingSubmissionIntent) → full (retained p m) ≡ ltb 16 (suc (length m.submitted))
  unfolding retained
  full_retain p =
      full_of_lem (retained p m) refl short_pending short_retired
      ∙ or-false (ltb 16 (length (m.submitted ++ record { slots = no_slots; entry = new_entry m.next_id p } ∷ [])) || false)
      ∙ or-false (ltb 16 (length (m.submitted ++ record { slots = no_slots; entry = new_entry m.next_id p } ∷ [])))
      ∙ ap (ltb 16) (length_snoc m.submitted (record { slots = no_slots; entry = new_entry m.next_id p }) ∙ add-one (length m.submitted))
