-- A submission goes, and its live or set-aside row is struck out.
use Rattle.std.specs.Prelude.{ℕ}
use Rattle.rules.specs.Keyed.{change, without}
use Rattle.rules.specs.Steps.Notes.{forgotten}
use Rattle.rules_ledger.specs.Ledger.{live, aside, Fate, displaced, struck, Row, Ledger, entry_id, row_id, with_fate}

abbrev pub struck_out : Fate → Fate
struck_out displaced = displaced
struck_out struck = struck
struck_out aside = struck
struck_out live = struck

abbrev pub strike : Row → Row
strike r = with_fate (struck_out r.fate) r

unfoldable pub remove_ledger : ℕ → Ledger → Ledger
unfolding without change forgotten
remove_ledger i l = record {
  next_token = l.next_token;
  next_id = l.next_id;
  entries = without entry_id i l.entries;
  rest = forgotten i l.rest;
  rows = change row_id i strike l.rows;
}
