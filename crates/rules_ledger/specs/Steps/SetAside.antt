-- "acknowledged, stopped or halted: the id's live row, if any, becomes set aside".
use Rattle.std.specs.Prelude.{ℕ}
use Rattle.rules_ledger.specs.Ledger.{live, aside, Fate, displaced, struck, Row, Ledger, with_fate}
use Rattle.rules_ledger.specs.Steps.Mark.{mark_ledger}

abbrev pub fate_aside : Fate → Fate
fate_aside displaced = displaced
fate_aside struck = struck
fate_aside aside = aside
fate_aside live = aside

abbrev pub row_aside : Row → Row
row_aside r = with_fate (fate_aside r.fate) r

unfoldable pub set_aside_ledger : ℕ → Ledger → Ledger
unfolding mark_ledger
set_aside_ledger = mark_ledger row_aside
