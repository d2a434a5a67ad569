-- What the steps share that change the slots of one submission, and its rows, without closing any.
use Rattle.std.specs.Prelude.{ℕ, List, [], ◌∷◌, map, false, ◌≡◌, refl}
use Rattle.std.proofs.Math.Path.{ap}
use Rattle.std.proofs.Common.{◌∙◌}
use Rattle.book.specs.declared.AttemptSlots.{AttemptSlots}
use Rattle.book.specs.declared.SubmittedEntry.{SubmittedEntry}
use Rattle.rules.specs.Keyed.{pick, change, pick_change_same, pick_change_other, map_change}
use Rattle.rules.specs.Steps.{mark_book, silent}
use Rattle.rules_ledger.specs.Law.{Law}
use Rattle.rules_ledger.specs.Ledger.{Row, Ledger, entry_id, row_id, with_rows}
use Rattle.rules_ledger.specs.Tidy.{is_open, Displaced, Fits, issue_of, PlaceIn, places_beside}
use Rattle.rules_ledger.specs.View.{slots_of, book_of, hold_change}

unfoldable pub mark_ledger : (Row → Row) → ℕ → Ledger → Ledger
unfolding change
mark_ledger f i l = with_rows (change row_id i f l.rows) l

-- a mark leaves what was issued, leaves an open row open and a closed one as it is; g says what it does to the slots
pub record Mark (g : AttemptSlots → AttemptSlots) (f : Row → Row) : Type 0 where
  pub issues : (r : Row) → issue_of (f r) ≡ issue_of r
  pub opens : (r : Row) → is_open (f r).fate ≡ is_open r.fate
  pub shuts : (r : Row) → is_open r.fate ≡ false → (f r).fate ≡ r.fate
  pub slots : (rs : List Row) → slots_of (map f rs) ≡ g (slots_of rs)

module _ {g : AttemptSlots → AttemptSlots} {f : Row → Row} (m : Mark g f) where
  ids : (r : Row) → (f r).id ≡ r.id
  ids r = ap (λ x. x.id) (m.issues r)

  keep : (rs : List Row) → Displaced rs → Displaced (map f rs)
  keep [] h = tt
  keep (r ∷ rs) h = (m.shuts r (ap is_open h.0) ∙ h.0, keep rs h.1)

  fit : (es : List SubmittedEntry) (rs : List Row) → Fits es rs → Fits es (map f rs)
  fit [] [] h = tt
  fit [] (r ∷ rs) h = (m.shuts r (ap is_open h.0) ∙ h.0, keep rs h.1)
  fit (e ∷ []) [] h = h
  fit (e ∷ []) (r ∷ rs) h = (rw (m.opens r) h.0, keep rs h.1)
  fit (e ∷ e' ∷ es) rs h = h

  others : (i : ℕ) (l : Ledger) (j : ℕ) → (i ≡ j → ⊥) → pick row_id j (change row_id i f l.rows) ≡ pick row_id j l.rows
  others i l j n = pick_change_other row_id f ids i j l.rows n

  here : (i : ℕ) (l : Ledger) → slots_of (pick row_id i (change row_id i f l.rows)) ≡ g (slots_of (pick row_id i l.rows))
  here i l = rw (pick_change_same row_id f ids i l.rows) (m.slots (pick row_id i l.rows))

  place : (i : ℕ) (l : Ledger) → PlaceIn i l → PlaceIn i (mark_ledger f i l)
  unfolding mark_ledger
  place i l p = rw (pick_change_same row_id f ids i l.rows)
      (record { fits = fit (pick entry_id i l.entries) (pick row_id i l.rows) p.fits; fresh = λ k. ((p.fresh k).0, ap (map f) (p.fresh k).1) })

  pub mark_law : (i : ℕ) → Law (silent (mark_book g i)) (silent (mark_ledger f i))
  unfolding mark_book mark_ledger book_of
  mark_law i = record {
    agrees = λ l t. rw (hold_change l.rows (change row_id i f l.rows) i (others i l) g (here i l) l.entries);
    tidies = λ l t. record {
      tokens = rw (map_change row_id issue_of f m.issues i l.rows) t.tokens;
      places = places_beside i l (mark_ledger f i l) t (record { ids = refl; entries = λ j n. refl; rows = others i l }) (place i l (t.places i));
    };
    grows = λ l. map_change row_id issue_of f m.issues i l.rows;
    chains = λ l t. tt;
  }
