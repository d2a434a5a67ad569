-- The rules run on a ledger with its events beside it: the ledger is the one that they leave without, and its fates are those that the events tell.
use Rattle.std.specs.Prelude.{ℕ, ◌≡◌, refl}
use Rattle.rules.specs.Rule.{Rule, carry, left}
use Rattle.rules_ledger.specs.Account.Fates.{Settled}
use Rattle.rules_ledger.specs.Events.{Told, on_told, told_book, run_told}
use Rattle.rules_ledger.specs.Run.{run_ledger, agree, left_carry}
use Rattle.rules_ledger.specs.Steps.{on_ledger}
use Rattle.rules_ledger.specs.Tidy.{Tidy}
use Rattle.rules_ledger.specs.View.{book_of}

-- what every step keeps
pub record Kept (o : ℕ) (s : Told) : Type 0 where
  pub tidy : Tidy o s.ledger
  pub settled : Settled s.ledger.rows s.events

same_ledger : {A : Type 0} (r : Rule A) (s : Told) → run_ledger r s.ledger ≡ carry (λ (x : Told). x.ledger) (run_told r s)
same_ledger r s = agree told_book on_told book_of on_ledger (λ (x : Told). x.ledger) (λ _. Unit {0}) (λ x. refl) (λ p x _. unfold on_told in refl) (λ p x _. tt) r s tt

pub left_ledger : {A : Type 0} (r : Rule A) (s : Told) → (left s (run_told r s)).ledger ≡ left s.ledger (run_ledger r s.ledger)
left_ledger r s = rw (same_ledger r s, left_carry (λ (x : Told). x.ledger) s (run_told r s))
