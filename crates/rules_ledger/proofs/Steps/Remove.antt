-- Theorems on specs/Steps/Remove.antt.
use Rattle.std.specs.Prelude.{ℕ, true, List, [], ◌∷◌, map, ◌≡◌, refl}
use Rattle.std.proofs.lemmas.Bool.{false≢true}
use Rattle.std.proofs.Common.{ap}
use Rattle.book.specs.declared.SubmittedEntry.{SubmittedEntry}
use Rattle.rules.specs.Keyed.{pick, change, pick_without_same, pick_without_other, pick_change_same, pick_change_other, map_change}
use Rattle.rules.specs.Steps.{remove_book, silent}
use Rattle.rules_ledger.specs.Law.{Law}
use Rattle.rules_ledger.specs.Ledger.{live, aside, Fate, displaced, struck, Row, Ledger, entry_id, row_id}
use Rattle.rules_ledger.specs.Tidy.{is_open, Displaced, Fits, issue_of, PlaceIn, places_beside}
use Rattle.rules_ledger.specs.View.{book_of, hold_without}
use Rattle.rules_ledger.specs.Steps.Remove.{struck_out, strike, remove_ledger}

keep : (rs : List Row) → Displaced rs → Displaced (map strike rs)
keep [] h = tt
keep (r ∷ rs) h = (ap struck_out h.0, keep rs h.1)

struck_last : (es : List SubmittedEntry) (rs : List Row) → Fits es rs → Fits {A = SubmittedEntry} [] (map strike rs)
struck_last [] [] h = tt
struck_last [] (r ∷ rs) h = (ap struck_out h.0, keep rs h.1)
struck_last (e ∷ []) [] h = tt
struck_last (e ∷ []) (r ∷ rs) h = (by r.fate h.0, keep rs h.1)
  where
    by : (f : Fate) → is_open f ≡ true → struck_out f ≡ struck
    by displaced q = absurd (false≢true q)
    by struck q = refl
    by aside q = refl
    by live q = refl
struck_last (e ∷ e' ∷ es) rs h = absurd h

others : (i : ℕ) (l : Ledger) (j : ℕ) → (i ≡ j → ⊥) → pick row_id j (change row_id i strike l.rows) ≡ pick row_id j l.rows
others i l j n = pick_change_other row_id strike (λ r. refl) i j l.rows n

place : (i : ℕ) (l : Ledger) → PlaceIn i l → PlaceIn i (remove_ledger i l)
unfolding remove_ledger
place i l p = rw (pick_without_same entry_id i l.entries, pick_change_same row_id strike (λ r. refl) i l.rows)
    (record { fits = struck_last (pick entry_id i l.entries) (pick row_id i l.rows) p.fits; fresh = λ k. (refl, ap (map strike) (p.fresh k).1) })

pub remove_law : (i : ℕ) → Law (silent (remove_book i)) (silent (remove_ledger i))
unfolding remove_book remove_ledger book_of
remove_law i = record {
  agrees = λ l t. rw (hold_without l.rows (change row_id i strike l.rows) i (others i l) l.entries);
  tidies = λ l t. record {
    tokens = rw (map_change row_id issue_of strike (λ r. refl) i l.rows) t.tokens;
    places = places_beside i l (remove_ledger i l) t
        (record { ids = refl; entries = λ j n. pick_without_other entry_id i j l.entries n; rows = others i l })
        (place i l (t.places i));
  };
  grows = λ l. map_change row_id issue_of strike (λ r. refl) i l.rows;
  chains = λ l t. tt;
}
