-- Paper 01, "The ledger of demand 3". It "holds a next token, at first the opening one, and a row for each issued token, at first none:
-- token, submission id, fate"; the attempt's other details and the slotless rest of the book are there to answer looks. No slot is in it.
use Rattle.std.specs.Prelude.{ℕ, List, []}
use Rattle.book.specs.declared.DeliveryAttempt.{DeliveryAttempt}
use Rattle.book.specs.declared.SubmittedEntry.{SubmittedEntry}
use Rattle.std.specs.Prelude.{None}
use Rattle.rules.specs.Steps.Notes.{Rest}

pub data Fate : Type 0 where
  displaced struck aside live : Fate

-- the token is the attempt's
pub record Row : Type 0 where
  pub id : ℕ
  pub fate : Fate
  pub attempt : DeliveryAttempt

-- the rows stand with the last issued first
pub record Ledger : Type 0 where
  pub next_token : ℕ
  pub next_id : ℕ
  pub entries : List SubmittedEntry
  pub rest : Rest
  pub rows : List Row

abbrev pub entry_id : SubmittedEntry → ℕ
entry_id e = e.id.0

abbrev pub row_id : Row → ℕ
row_id r = r.id

abbrev pub row_token : Row → ℕ
row_token r = r.attempt.token.0

unfoldable pub begun : ℕ → ℕ → Ledger
begun token id = record {
  next_token = token;
  next_id = id;
  entries = [];
  rest = record { pending = []; retired = []; rollback = None; replayed = [] };
  rows = [];
}

abbrev pub with_entries : List SubmittedEntry → Ledger → Ledger
with_entries es l = record { next_token = l.next_token; next_id = l.next_id; entries = es; rest = l.rest; rows = l.rows }

abbrev pub with_rows : List Row → Ledger → Ledger
with_rows rs l = record { next_token = l.next_token; next_id = l.next_id; entries = l.entries; rest = l.rest; rows = rs }

abbrev pub with_ledger_rest : Rest → Ledger → Ledger
with_ledger_rest s l = record { next_token = l.next_token; next_id = l.next_id; entries = l.entries; rest = s; rows = l.rows }

abbrev pub with_fate : Fate → Row → Row
with_fate f r = record { id = r.id; fate = f; attempt = r.attempt }
