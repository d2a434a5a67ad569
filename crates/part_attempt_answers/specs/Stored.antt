-- The submission at a place of the book's cells; two changes of one submission, by id, are one store at its place.
use Rattle.std.specs.Prelude.{ℕ, ◌<◌, Bool, ◌≡◌, length, get_or}
use Rattle.std.proofs.Math.Bool.{true, false}
use mathlib.Core.List.{List, [], ◌∷◌, map}
use Rattle.std.proofs.Math.Path.{refl, ap}
use Rattle.std.proofs.Common.{◌∙◌, arith, length-set}
use Rattle.std.proofs.Math.Dec.{eqb}
use Rattle.base_lists.specs.Lists.{distinctb}
use Rattle.book.specs.Zero.{zero_submitted}
use Rattle.book.specs.Model.{Book, view, back}
use Rattle.book.specs.Sound.{id_of}
use Rattle.book.specs.SoundLaws.{Fits}
use Rattle.book.specs.declared.AttemptSlots.{AttemptSlots}
use Rattle.book.specs.declared.SubmittedTx.{SubmittedTx}
use Rattle.book.specs.declared.BookData.{BookData}
use Rattle.rules.specs.Keyed.{change}
use Rattle.rules.specs.Rule.{Revision}
use Rattle.rules.specs.Steps.{with_submitted, with_entry, with_slots, revise_book, mark_book}
use Rattle.rules.specs.Steps.Entry.{revised}
use Rattle.rules_laws.specs.Sound.Parts.{revised_id}
use Rattle.part_ids.specs.Counted.{counted_get}
use Rattle.part_lookup.specs.Normal.{Normal, normal_of, submitted_are}
use Rattle.part_lookup.specs.PlaceLaws.{change_at}
use Rattle.part_change.specs.Changes.{stored_at}
use Rattle.part_attempt_answers.specs.Live.{at}

-- what the code reads at a place of the list
module _ (b : BookData) (n : Normal b) (k : ℕ) (within : k < length (view b).submitted) where
  pub read_at : (d : SubmittedTx) → get_or b.submitted k d ≡ at (view b) k
  read_at d = counted_get (submitted_are b n) k d zero_submitted within

  pub within_16 : k < 16
  within_16 = let f = n.fits.submitted in omega arith

-- two changes of the elements of one key are one
module _ {A : Type 0} (key : A → ℕ) (f g : A → A) (keeps : (x : A) → key (f x) ≡ key x) where
  pub change_twice : (i : ℕ) (xs : List A) → change key i g (change key i f xs) ≡ change key i (λ x. g (f x)) xs
  unfolding change
  change_twice i [] = refl
  change_twice i (x ∷ xs) = go (eqb (key x) i) refl (change_twice i xs)
    where
      go : (t : Bool) → eqb (key x) i ≡ t → change key i g (change key i f xs) ≡ change key i (λ y. g (f y)) xs → change key i g (change key i f (x ∷ xs)) ≡ change key i (λ y. g (f y)) (x ∷ xs)
      go true e ih = simp (e, keeps x, ih)
      go false e ih = simp (e, ih)

module _ (m : Book) (k : ℕ) where
  -- facts and slots of the submission at k
  pub revise_mark : distinctb (map id_of m.submitted) ≡ true → k < length m.submitted → (r : Revision) (g : AttemptSlots → AttemptSlots)
      → mark_book g (id_of (at m k)) (revise_book (id_of (at m k)) r m) ≡ stored_at k (with_slots g (with_entry (revised r) (at m k))) m
  unfolding mark_book revise_book
  revise_mark distinct within r g =
      ap (λ (ts : List SubmittedTx). with_submitted ts m)
      (change_twice id_of (with_entry (revised r)) (with_slots g) (λ t. ap (λ x. x.0) (revised_id r t.entry)) (id_of (at m k)) m.submitted
      ∙ change_at id_of m.submitted distinct (id_of (at m k)) k zero_submitted within refl (λ t. with_slots g (with_entry (revised r) t)))

  stored_fits : (t : SubmittedTx) → Fits m → Fits (stored_at k t m)
  stored_fits t f = record {
    submitted = rw (length-set m.submitted k t) f.submitted;
    pending = f.pending;
    retired = f.retired;
    replayed = f.replayed;
  }

pub stored_normal : {b out : BookData} (k : ℕ) (t : SubmittedTx) → Normal b → out ≡ back (stored_at k t (view b)) → Normal out
stored_normal {b} k t n e = normal_of (stored_at k t (view b)) e (stored_fits (view b) k t n.fits)
