-- Theorems on specs/Steps/Emit.antt.
use Rattle.std.specs.Prelude.{ℕ, suc, Bool, true, false, cond, ◌≡◌, eqb}
use Rattle.std.proofs.lemmas.Bool.{false≢true}
use mathlib.Core.List.{List, [], ◌∷◌, map, cons≢nil}
use Rattle.std.specs.Prelude.{Some}
use Rattle.std.proofs.Math.Path.{refl}
use Rattle.std.proofs.Common.{sym, ap}
use Rattle.book.specs.declared.DeliveryAttempt.{DeliveryAttempt}
use Rattle.book.specs.declared.SubmittedEntry.{SubmittedEntry}
use Rattle.book.specs.declared.SubmissionDeliveryGoal.{SubmissionDeliveryGoal}
use Rattle.book.specs.Sound.{id_of}
use Rattle.book.specs.Zero.{no_attempt, no_slots}
use Rattle.rules.specs.Keyed.{pick, picked_key, map_change, pick_map}
use Rattle.rules.specs.Parts.{current_fingerprint}
use Rattle.rules.specs.Steps.{issue_book, emit_to, emit_book}
use Rattle.rules.specs.Steps.Slots.{present, issue_attempt, taken, slots_issued, token_in, handed}
use Rattle.rules_ledger.specs.Law.{map_effect, Law}
use Rattle.rules_ledger.specs.Ledger.{live, aside, Fate, displaced, struck, Row, Ledger, entry_id, row_id, row_token}
use Rattle.rules_ledger.specs.Tidy.{is_open, Displaced, Fits, Place, issue_of, history, Tidy, last_to, token_of, grown, Chained, places_beside}
use Rattle.rules_ledger.specs.View.{slots_by, slots_of, hold, book_of, hold_change}
use Rattle.rules_ledger.specs.Steps.Emit.{displaced_by, displace, last_of, issue_row, issue_ledger, emit_entry, emit_ledger, others, own}

-- what the slots of a row say
issued_slots : (a : DeliveryAttempt) (rs : List Row) → slots_issued a (slots_of rs) ≡ slots_by live a
unfolding slots_issued no_slots
issued_slots a [] = refl
issued_slots a (r ∷ rs) = by r.fate
  where
    by : (f : Fate) → slots_issued a (slots_by f r.attempt) ≡ slots_by live a
    by displaced = refl
    by struck = refl
    by aside = refl
    by live = refl

-- of a retained submission the last row is open, and stands in the slots
taken_last : (e : SubmittedEntry) (es : List SubmittedEntry) (rs : List Row) → Fits (e ∷ es) rs → taken (slots_of rs) ≡ last_of rs
unfolding taken no_slots
taken_last e [] [] h = refl
taken_last e [] (r ∷ rs) h = by r.fate h.0
  where
    by : (f : Fate) → is_open f ≡ true → taken (slots_by f r.attempt) ≡ present r.attempt
    by displaced q = absurd (false≢true q)
    by struck q = absurd (false≢true q)
    by aside q = refl
    by live q = refl
taken_last e (e' ∷ es) rs h = absurd h

keep : (rs : List Row) → Displaced rs → Displaced (map displace rs)
keep [] h = tt
keep (r ∷ rs) h = (ap displaced_by h.0, keep rs h.1)

pub displaced_all : (e : SubmittedEntry) (rs : List Row) → Fits (e ∷ []) rs → Displaced (map displace rs)
displaced_all e [] h = tt
displaced_all e (r ∷ rs) h = (by r.fate h.0, keep rs h.1)
  where
    by : (f : Fate) → is_open f ≡ true → displaced_by f ≡ displaced
    by displaced q = refl
    by struck q = absurd (false≢true q)
    by aside q = refl
    by live q = refl

last_to_lem : (i : ℕ) (rows : List Row) → token_of (token_in (last_of (pick row_id i rows))) ≡ last_to i (map issue_of rows)
unfolding pick last_to no_attempt
last_to_lem i [] = refl
last_to_lem i (r ∷ rows) = go (eqb r.id i) (last_to_lem i rows)
  where
    go : (t : Bool) → token_of (token_in (last_of (pick row_id i rows))) ≡ last_to i (map issue_of rows)
        → token_of (token_in (last_of (cond t (r ∷ pick row_id i rows) (pick row_id i rows)))) ≡ cond t (Some (row_token r)) (last_to i (map issue_of rows))
    go true ih = refl
    go false ih = ih

module _ (i : ℕ) (g : SubmissionDeliveryGoal) (v : List ℕ) (l : Ledger) where
  here : slots_of (pick row_id i (issue_ledger i g v l).rows) ≡ slots_issued (issue_attempt l.next_token g v) (slots_of (pick row_id i l.rows))
  here = rw (own i g v l) (sym (issued_slots (issue_attempt l.next_token g v) (pick row_id i l.rows)))

  token_is : row_token (issue_row i g v l) ≡ l.next_token
  unfolding issue_attempt
  token_is = refl

  issues : history (issue_ledger i g v l) ≡ issue_of (issue_row i g v l) ∷ history l
  issues = ap (λ h. issue_of (issue_row i g v l) ∷ h) (map_change row_id issue_of displace (λ r. refl) i l.rows)

module _ (i : ℕ) (g : SubmissionDeliveryGoal) (l : Ledger) where
  module _ {o : ℕ} (t : Tidy o l) where
    fit : (v : List ℕ) (e : SubmittedEntry) (es : List SubmittedEntry) (rs : List Row) → Fits (e ∷ es) rs → Fits (e ∷ es) (issue_row i g v l ∷ map displace rs)
    fit v e [] rs h = (refl, displaced_all e rs h)
    fit v e (e' ∷ es) rs h = h

    -- one case for a submission that is retained, and one for any other id
    tidy : (es : List SubmittedEntry) → pick entry_id i l.entries ≡ es → Tidy o (emit_entry i g l es).after
    tidy [] q = t
    tidy (e ∷ es) q = record {
      tokens = (ap suc (sym (token_is i g v l)), rw (token_is i g v l, map_change row_id issue_of displace (λ r. refl) i l.rows) t.tokens);
      places = places_beside i l (issue_ledger i g v l) t (record { ids = refl; entries = λ j n. refl; rows = others i g v l }) (rw (own i g v l, q) (record {
        fits = fit v e es (pick row_id i l.rows) p.fits;
        fresh = λ k. absurd (cons≢nil (p.fresh k).0);
      }));
    }
      where
        v : List ℕ
        v = current_fingerprint e

        p : Place l.next_id i (e ∷ es) (pick row_id i l.rows)
        p = rw q at (t.places i)

    agree : (es : List SubmittedEntry) → pick entry_id i l.entries ≡ es → emit_to i g (book_of l) (map (hold l.rows) es) ≡ map_effect book_of (emit_entry i g l es)
    unfolding book_of hold issue_book
    agree [] q = refl
    agree (e ∷ es) q = rw (
      hold_change l.rows (issue_ledger i g (current_fingerprint e) l).rows i (others i g (current_fingerprint e) l) (slots_issued (issue_attempt l.next_token g (current_fingerprint e))) (here i g (current_fingerprint e) l) l.entries,
      picked_key entry_id i l.entries q,
      taken_last e es (pick row_id i l.rows) (rw q at (t.places i).fits),
    )

  grow : (es : List SubmittedEntry) → pick entry_id i l.entries ≡ es → history (emit_entry i g l es).after ≡ grown (emit_entry i g l es).out (history l)
  unfolding handed issue_attempt
  grow [] q = refl
  grow (e ∷ es) q = rw (picked_key entry_id i l.entries q) (issues i g (current_fingerprint e) l)

  chain : (es : List SubmittedEntry) → pick entry_id i l.entries ≡ es → Chained (history l) (emit_entry i g l es).out
  unfolding handed
  chain [] q = tt
  chain (e ∷ es) q = (rw (picked_key entry_id i l.entries q) (last_to_lem i l.rows), tt)

pub emit_law : (i : ℕ) (g : SubmissionDeliveryGoal) → Law (emit_book i g) (emit_ledger i g)
unfolding emit_book emit_ledger book_of hold
emit_law i g = record {
  agrees = λ l t. rw (pick_map entry_id id_of (hold l.rows) (λ e. refl) i l.entries) (agree i g l t (pick entry_id i l.entries) refl);
  tidies = λ l t. tidy i g l t (pick entry_id i l.entries) refl;
  grows = λ l. grow i g l (pick entry_id i l.entries) refl;
  chains = λ l t. chain i g l (pick entry_id i l.entries) refl;
}
