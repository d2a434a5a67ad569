-- Theorems on specs/Steps/SetAside.antt.
use Rattle.std.specs.Prelude.{ℕ, false, List, [], ◌∷◌, map, ◌≡◌, refl}
use Rattle.std.proofs.Common.{true≢false}
use Rattle.book.specs.declared.DeliveryAttempt.{DeliveryAttempt}
use Rattle.book.specs.Zero.{no_slots}
use Rattle.rules.specs.Steps.{mark_book, silent}
use Rattle.rules.specs.Steps.Slots.{slots_aside}
use Rattle.rules_ledger.specs.Law.{Law}
use Rattle.rules_ledger.specs.Ledger.{live, aside, Fate, displaced, struck, Row}
use Rattle.rules_ledger.specs.Steps.Mark.{Mark, mark_law}
use Rattle.rules_ledger.specs.Tidy.{is_open}
use Rattle.rules_ledger.specs.View.{slots_by, slots_of}
use Rattle.rules_ledger.specs.Steps.SetAside.{fate_aside, row_aside, set_aside_ledger}

by_fate : (f : Fate) (a : DeliveryAttempt) → slots_by (fate_aside f) a ≡ slots_aside (slots_by f a)
unfolding slots_aside no_slots
by_fate displaced a = refl
by_fate struck a = refl
by_fate aside a = refl
by_fate live a = refl

no_slots_lem : no_slots ≡ slots_aside no_slots
unfolding slots_aside no_slots
no_slots_lem = refl

mark : Mark slots_aside row_aside
mark = record { issues = λ r. refl; opens = λ r. opens r.fate; shuts = λ r. shuts r.fate; slots = slots }
  where
    shuts : (f : Fate) → is_open f ≡ false → fate_aside f ≡ f
    shuts displaced q = refl
    shuts struck q = refl
    shuts aside q = refl
    shuts live q = absurd (true≢false q)

    opens : (f : Fate) → is_open (fate_aside f) ≡ is_open f
    opens displaced = refl
    opens struck = refl
    opens aside = refl
    opens live = refl

    slots : (rs : List Row) → slots_of (map row_aside rs) ≡ slots_aside (slots_of rs)
    slots [] = no_slots_lem
    slots (r ∷ rs) = by_fate r.fate r.attempt

pub set_aside_law : (i : ℕ) → Law (silent (mark_book slots_aside i)) (silent (set_aside_ledger i))
unfolding set_aside_ledger
set_aside_law i = mark_law mark i
