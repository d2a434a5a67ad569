-- The book that a ledger foretells: its submissions, each with the slots that its last row tells. Looks on the ledger are answered from it.
use Rattle.std.specs.Prelude.{ℕ, Bool, ◌≡◌}
use Rattle.std.proofs.Math.Bool.{true, false}
use mathlib.Core.List.{List, [], ◌∷◌, map}
use Rattle.std.proofs.Math.Path.{refl}
use Rattle.std.proofs.Common.{sym, ap}
use Rattle.std.proofs.Math.Dec.{eqb}
use borrow.Author.Tests.{eqb-true, eqb-false}
use Rattle.book.specs.declared.DeliveryAttempt.{DeliveryAttempt}
use Rattle.book.specs.declared.AttemptSlots.{AttemptSlots}
use Rattle.book.specs.declared.SubmittedEntry.{SubmittedEntry}
use Rattle.book.specs.declared.SubmittedTx.{SubmittedTx}
use Rattle.book.specs.Model.{Book}
use Rattle.book.specs.Sound.{id_of}
use Rattle.book.specs.Zero.{no_attempt, no_slots}
use Rattle.rules.specs.Keyed.{pick, change, without}
use Rattle.rules.specs.Steps.{with_slots}
use Rattle.rules.specs.Steps.Slots.{present}
use Rattle.rules_ledger.specs.Ledger.{live, aside, Fate, displaced, struck, Row, Ledger, entry_id, row_id}

abbrev pub slots_by : Fate → DeliveryAttempt → AttemptSlots
slots_by displaced a = no_slots
slots_by struck a = no_slots
slots_by aside a = record { active_attempt = no_attempt; completed_attempt = present a }
slots_by live a = record { active_attempt = present a; completed_attempt = no_attempt }

-- by the rows of one submission, the last issued first
abbrev pub slots_of : List Row → AttemptSlots
slots_of [] = no_slots
slots_of (r ∷ rs) = slots_by r.fate r.attempt

unfoldable pub hold : List Row → SubmittedEntry → SubmittedTx
hold rows e = record { slots = slots_of (pick row_id (entry_id e) rows); entry = e }

unfoldable pub book_of : Ledger → Book
unfolding hold
book_of l = record {
  next_token = record { 0 = l.next_token };
  next_id = record { 0 = l.next_id };
  submitted = map (hold l.rows) l.entries;
  pending = l.rest.pending;
  retired = l.rest.retired;
  rollback = l.rest.rollback;
  replayed = l.rest.replayed;
}

pub ids_held : (rows : List Row) (es : List SubmittedEntry) → map id_of (map (hold rows) es) ≡ map entry_id es
unfolding hold
ids_held rows [] = refl
ids_held rows (e ∷ es) = ap (λ (is : List ℕ). entry_id e ∷ is) (ids_held rows es)

-- rows that differ for one submission alone
module _ (rows rows' : List Row) (i : ℕ) (other : (j : ℕ) → (i ≡ j → ⊥) → pick row_id j rows' ≡ pick row_id j rows) where
  pub hold_without : (es : List SubmittedEntry) → map (hold rows') (without entry_id i es) ≡ without id_of i (map (hold rows) es)
  unfolding without hold
  hold_without [] = refl
  hold_without (e ∷ es) = go (eqb (entry_id e) i) refl (hold_without es)
    where
      go : (t : Bool) → eqb (entry_id e) i ≡ t → map (hold rows') (without entry_id i es) ≡ without id_of i (map (hold rows) es)
          → map (hold rows') (without entry_id i (e ∷ es)) ≡ without id_of i (map (hold rows) (e ∷ es))
      go true q ih = simp (q, ih)
      go false q ih = simp (q, ih, other (entry_id e) (λ k. eqb-false (entry_id e) i q (sym k)))

  module _ (g : AttemptSlots → AttemptSlots) (same : slots_of (pick row_id i rows') ≡ g (slots_of (pick row_id i rows))) where
    pub hold_change : (es : List SubmittedEntry) → map (hold rows') es ≡ change id_of i (with_slots g) (map (hold rows) es)
    unfolding change hold
    hold_change [] = refl
    hold_change (e ∷ es) = go (eqb (entry_id e) i) refl (hold_change es)
      where
        here : entry_id e ≡ i → slots_of (pick row_id (entry_id e) rows') ≡ g (slots_of (pick row_id (entry_id e) rows))
        here k = rw k same

        go : (t : Bool) → eqb (entry_id e) i ≡ t → map (hold rows') es ≡ change id_of i (with_slots g) (map (hold rows) es)
            → map (hold rows') (e ∷ es) ≡ change id_of i (with_slots g) (map (hold rows) (e ∷ es))
        go true q ih = simp (q, ih, here (eqb-true (entry_id e) i q))
        go false q ih = simp (q, ih, other (entry_id e) (λ k. eqb-false (entry_id e) i q (sym k)))
