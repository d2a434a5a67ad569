-- What a step owes: its effects on the book and on the ledger agree, it leaves the ledger tidy, and what it hands out continues the history.
use Rattle.std.specs.Prelude.{ℕ, ◌≡◌}
use Rattle.book.specs.Model.{Book}
use Rattle.rules.specs.Rule.{Effect}
use Rattle.rules_ledger.specs.Ledger.{Ledger}
use Rattle.rules_ledger.specs.Tidy.{history, Tidy, grown, Chained}
use Rattle.rules_ledger.specs.View.{book_of}

abbrev pub map_effect : {S T : Type 0} → (S → T) → Effect S → Effect T
map_effect f e = record { after = f e.after; out = e.out }

pub record Law (book : Book → Effect Book) (ledger : Ledger → Effect Ledger) : Type 0 where
  pub agrees : {o : ℕ} (l : Ledger) → Tidy o l → book (book_of l) ≡ map_effect book_of (ledger l)
  pub tidies : {o : ℕ} (l : Ledger) → Tidy o l → Tidy o (ledger l).after
  pub grows : (l : Ledger) → history (ledger l).after ≡ grown (ledger l).out (history l)
  pub chains : {o : ℕ} (l : Ledger) → Tidy o l → Chained (history l) (ledger l).out
