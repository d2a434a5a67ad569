-- A note changes queue, retirements or replay epoch; a mark as replayed goes by the retained ids besides.
use Rattle.std.specs.Prelude.{ℕ, map, refl}
use Rattle.rules.specs.Rule.{Note}
use Rattle.rules.specs.Steps.{note_book, replay_book, silent}
use Rattle.rules.specs.Steps.Notes.{noted, replayed_with}
use Rattle.rules_ledger.specs.Law.{Law}
use Rattle.rules_ledger.specs.Ledger.{Ledger, entry_id, with_ledger_rest}
use Rattle.rules_ledger.specs.View.{book_of, ids_held}

unfoldable pub note_ledger : Note → Ledger → Ledger
unfolding noted
note_ledger n l = with_ledger_rest (noted n l.rest) l

pub note_law : (n : Note) → Law (silent (note_book n)) (silent (note_ledger n))
unfolding note_book note_ledger book_of
note_law n = record {
  agrees = λ l t. refl;
  tidies = λ l t. record { tokens = t.tokens; places = t.places };
  grows = λ l. refl;
  chains = λ l t. tt;
}

unfoldable pub replay_ledger : ℕ → Ledger → Ledger
unfolding replayed_with
replay_ledger i l = with_ledger_rest (replayed_with i (map entry_id l.entries) l.rest) l

pub replay_law : (i : ℕ) → Law (silent (replay_book i)) (silent (replay_ledger i))
unfolding replay_book replay_ledger book_of
replay_law i = record {
  agrees = λ l t. rw (ids_held l.rows l.entries);
  tidies = λ l t. record { tokens = t.tokens; places = t.places };
  grows = λ l. refl;
  chains = λ l t. tt;
}
