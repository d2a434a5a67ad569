-- A change of the facts of one submission.
use Rattle.std.specs.Prelude.{ℕ, Bool, true, false, cond, List, [], ◌∷◌, map, ◌≡◌, refl, eqb}
use Rattle.std.proofs.Common.{ap}
use Rattle.book.specs.declared.SubmittedEntry.{SubmittedEntry}
use Rattle.book.specs.Sound.{id_of}
use Rattle.rules.specs.Keyed.{pick, change, pick_change_same, pick_change_other}
use Rattle.rules.specs.Rule.{Revision}
use Rattle.rules.specs.Steps.{with_entry, revise_book, silent}
use Rattle.rules.specs.Steps.Entry.{revised}
use Rattle.rules_ledger.specs.Law.{Law}
use Rattle.rules_ledger.specs.Ledger.{Row, Ledger, entry_id, row_id, with_entries}
use Rattle.rules_ledger.specs.Tidy.{fits_map, PlaceIn, places_beside}
use Rattle.rules_ledger.specs.View.{hold, book_of}

unfoldable pub revise_ledger : ℕ → Revision → Ledger → Ledger
unfolding change revised
revise_ledger i r l = with_entries (change entry_id i (revised r) l.entries) l

keeps_id : (r : Revision) (e : SubmittedEntry) → entry_id (revised r e) ≡ entry_id e
unfolding revised
keeps_id r e = refl

held : (r : Revision) (rows : List Row) (i : ℕ) (es : List SubmittedEntry)
    → change id_of i (with_entry (revised r)) (map (hold rows) es) ≡ map (hold rows) (change entry_id i (revised r) es)
unfolding hold change
held r rows i [] = refl
held r rows i (e ∷ es) = go (eqb (entry_id e) i) (held r rows i es)
  where
    go : (t : Bool) → change id_of i (with_entry (revised r)) (map (hold rows) es) ≡ map (hold rows) (change entry_id i (revised r) es)
        → (cond t (with_entry (revised r) (hold rows e)) (hold rows e) ∷ change id_of i (with_entry (revised r)) (map (hold rows) es))
        ≡ hold rows (cond t (revised r e) e) ∷ map (hold rows) (change entry_id i (revised r) es)
    go true ih = rw (ih, keeps_id r e)
    go false ih = rw ih

place : (r : Revision) (i : ℕ) (l : Ledger) → PlaceIn i l → PlaceIn i (revise_ledger i r l)
unfolding revise_ledger
place r i l p = rw (pick_change_same entry_id (revised r) (keeps_id r) i l.entries)
    (record { fits = fits_map (revised r) (pick entry_id i l.entries) (pick row_id i l.rows) p.fits; fresh = λ k. (ap (map (revised r)) (p.fresh k).0, (p.fresh k).1) })

pub revise_law : (i : ℕ) (r : Revision) → Law (silent (revise_book i r)) (silent (revise_ledger i r))
unfolding revise_book revise_ledger book_of
revise_law i r = record {
  agrees = λ l t. rw (held r l.rows i l.entries);
  tidies = λ l t. record {
    tokens = t.tokens;
    places = places_beside i l (revise_ledger i r l) t
        (record { ids = refl; entries = λ j n. pick_change_other entry_id (revised r) (keeps_id r) i j l.entries n; rows = λ j n. refl })
        (place r i l (t.places i));
  };
  grows = λ l. refl;
  chains = λ l t. tt;
}
