-- "emitted: the id's live or set-aside row, if any, becomes displaced; then a row with next token, id, live; next token up by one.
-- Predecessor: the token of the id's last row before, or none". An id that is not retained gets none.
use Rattle.std.specs.Prelude.{ℕ, suc, ◌≡◌}
use mathlib.Core.List.{List, [], ◌∷◌, map}
use Rattle.std.proofs.Math.Path.{refl}
use Rattle.std.proofs.Common.{ap, ◌∙◌}
use Rattle.book.specs.declared.OptionalAttempt.{OptionalAttempt}
use Rattle.book.specs.declared.SubmittedEntry.{SubmittedEntry}
use Rattle.book.specs.declared.SubmissionDeliveryGoal.{SubmissionDeliveryGoal}
use Rattle.book.specs.Zero.{no_attempt}
use Rattle.rules.specs.Keyed.{pick, change, pick_hit, pick_miss, pick_change_same, pick_change_other}
use Rattle.rules.specs.Parts.{current_fingerprint}
use Rattle.rules.specs.Rule.{Effect}
use Rattle.rules.specs.Steps.Slots.{present, issue_attempt, handed}
use Rattle.rules_ledger.specs.Ledger.{live, aside, Fate, displaced, struck, Row, Ledger, entry_id, row_id, with_fate}

abbrev pub displaced_by : Fate → Fate
displaced_by displaced = displaced
displaced_by struck = struck
displaced_by aside = displaced
displaced_by live = displaced

abbrev pub displace : Row → Row
displace r = with_fate (displaced_by r.fate) r

-- the attempt of the last row
abbrev pub last_of : List Row → OptionalAttempt
last_of [] = no_attempt
last_of (r ∷ rs) = present r.attempt

abbrev pub issue_row : ℕ → SubmissionDeliveryGoal → List ℕ → Ledger → Row
issue_row i g v l = record { id = i; fate = live; attempt = issue_attempt l.next_token g v }

abbrev pub issue_ledger : ℕ → SubmissionDeliveryGoal → List ℕ → Ledger → Ledger
issue_ledger i g v l = record {
  next_token = suc l.next_token;
  next_id = l.next_id;
  entries = l.entries;
  rest = l.rest;
  rows = issue_row i g v l ∷ change row_id i displace l.rows;
}

abbrev pub emit_entry : ℕ → SubmissionDeliveryGoal → Ledger → List SubmittedEntry → Effect Ledger
emit_entry i g l [] = record { after = l; out = [] }
emit_entry i g l (e ∷ es) = record {
  after = issue_ledger i g (current_fingerprint e) l;
  out = handed l.next_token g e (last_of (pick row_id i l.rows)) ∷ [];
}

unfoldable pub emit_ledger : ℕ → SubmissionDeliveryGoal → Ledger → Effect Ledger
unfolding pick change issue_attempt handed current_fingerprint no_attempt
emit_ledger i g l = emit_entry i g l (pick entry_id i l.entries)

module _ (i : ℕ) (g : SubmissionDeliveryGoal) (v : List ℕ) (l : Ledger) where
  pub others : (j : ℕ) → (i ≡ j → ⊥) → pick row_id j (issue_ledger i g v l).rows ≡ pick row_id j l.rows
  others j n = pick_miss row_id j (issue_row i g v l) _ n ∙ pick_change_other row_id displace (λ r. refl) i j l.rows n

  pub own : pick row_id i (issue_ledger i g v l).rows ≡ issue_row i g v l ∷ map displace (pick row_id i l.rows)
  own = pick_hit row_id i (issue_row i g v l) _ refl ∙ ap (λ rs. issue_row i g v l ∷ rs) (pick_change_same row_id displace (λ r. refl) i l.rows)
