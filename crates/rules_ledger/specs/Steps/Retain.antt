-- A new submission under the next id; in a list of calls that id is always free.
use Rattle.std.specs.Prelude.{ℕ, suc, Bool, cond, ◌≡◌}
use Rattle.std.proofs.Math.Bool.{true, false}
use mathlib.Core.List.{List, [], ◌∷◌, ◌++◌, map, append-nil}
use Rattle.std.proofs.Math.Path.{refl}
use Rattle.std.proofs.Common.{sym, ap, ◌∙◌, arith}
use Rattle.book.specs.declared.SubmittedEntry.{SubmittedEntry}
use Rattle.book.specs.declared.PendingSubmissionIntent.{PendingSubmissionIntent}
use Rattle.book.specs.Model.{Book}
use Rattle.book.specs.Zero.{no_slots}
use Rattle.rules.specs.Keyed.{same_or_other, pick, pick_append, pick_one, pick_none}
use Rattle.rules.specs.Steps.{retainable, retained, retain_book, silent}
use Rattle.rules.specs.Steps.Entry.{new_entry}
use Rattle.rules_ledger.specs.Law.{Law}
use Rattle.rules_ledger.specs.Ledger.{Row, Ledger, entry_id, row_id}
use Rattle.rules_ledger.specs.Tidy.{history, Tidy, PlaceIn}
use Rattle.rules_ledger.specs.View.{hold, book_of, ids_held}

unfoldable pub retained_ledger : PendingSubmissionIntent → Ledger → Ledger
unfolding new_entry
retained_ledger p l = record {
  next_token = l.next_token;
  next_id = suc l.next_id;
  entries = l.entries ++ new_entry (record { 0 = l.next_id }) p ∷ [];
  rest = l.rest;
  rows = l.rows;
}

unfoldable pub retain_ledger : PendingSubmissionIntent → Ledger → Ledger
unfolding retainable retained_ledger
retain_ledger p l = cond (retainable p l.next_id (map entry_id l.entries)) (retained_ledger p l) l

held : (rows : List Row) (es : List SubmittedEntry) (e : SubmittedEntry) → pick row_id (entry_id e) rows ≡ []
    → map (hold rows) es ++ record { slots = no_slots; entry = e } ∷ [] ≡ map (hold rows) (es ++ e ∷ [])
unfolding hold
held rows [] e k = rw k
held rows (x ∷ es) e k = simp (held rows es e k)

module _ (p : PendingSubmissionIntent) {o : ℕ} (l : Ledger) (t : Tidy o l) where
  new : SubmittedEntry
  new = new_entry (record { 0 = l.next_id }) p

  new_id : entry_id new ≡ l.next_id
  unfolding new new_entry
  new_id = refl

  place : (i : ℕ) → PlaceIn i (retained_ledger p l)
  unfolding retained_ledger new
  place i = rw (pick_append entry_id i l.entries (new ∷ [])) (same_or_other l.next_id i
      (λ e. rw (((t.places i).fresh (omega arith)).0, ((t.places i).fresh (omega arith)).1, pick_one entry_id i new (new_id ∙ e))
      (record { fits = tt; fresh = λ k. absurd (omega arith) }))
      (λ n. rw (pick_none entry_id i new (λ e. n (sym new_id ∙ e)), append-nil (pick entry_id i l.entries))
      (record { fits = (t.places i).fits; fresh = λ k. (t.places i).fresh (omega arith) })))

  agree : retained p (book_of l) ≡ book_of (retained_ledger p l)
  unfolding retained retained_ledger book_of new
  agree = rw (held l.rows l.entries new (rw new_id ((t.places l.next_id).fresh (omega arith)).1))

  by : (b : Bool) → cond b (retained p (book_of l)) (book_of l) ≡ book_of (cond b (retained_ledger p l) l)
  by true = agree
  by false = refl

  tidy : (b : Bool) → Tidy o (cond b (retained_ledger p l) l)
  unfolding retained_ledger
  tidy true = record { tokens = t.tokens; places = place }
  tidy false = t

grow : (p : PendingSubmissionIntent) (l : Ledger) (b : Bool) → history (cond b (retained_ledger p l) l) ≡ history l
unfolding retained_ledger
grow p l true = refl
grow p l false = refl

pub retain_law : (p : PendingSubmissionIntent) → Law (silent (retain_book p)) (silent (retain_ledger p))
unfolding retain_book retain_ledger book_of
retain_law p = record {
  agrees = λ l t. rw (ids_held l.rows l.entries) (ap (λ (b : Book). record { after = b; out = [] }) (by p l t (retainable p l.next_id (map entry_id l.entries))));
  tidies = λ l t. tidy p l t (retainable p l.next_id (map entry_id l.entries));
  grows = λ l. grow p l (retainable p l.next_id (map entry_id l.entries));
  chains = λ l t. tt;
}
