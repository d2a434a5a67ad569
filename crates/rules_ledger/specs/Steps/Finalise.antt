-- The live attempt of a submission gets its final fingerprint.
use Rattle.std.specs.Prelude.{ℕ, List, [], ◌∷◌, map, ◌≡◌, refl}
use Rattle.book.specs.declared.DeliveryAttempt.{DeliveryAttempt}
use Rattle.book.specs.Zero.{no_slots}
use Rattle.rules.specs.Steps.{mark_book, silent}
use Rattle.rules.specs.Steps.Slots.{attempt_final, slots_final}
use Rattle.rules_ledger.specs.Law.{Law}
use Rattle.rules_ledger.specs.Ledger.{live, aside, Fate, displaced, struck, Row, Ledger}
use Rattle.rules_ledger.specs.Steps.Mark.{mark_ledger, Mark, mark_law}
use Rattle.rules_ledger.specs.View.{slots_by, slots_of}

abbrev pub fate_final : List ℕ → Fate → DeliveryAttempt → DeliveryAttempt
fate_final v displaced a = a
fate_final v struck a = a
fate_final v aside a = a
fate_final v live a = attempt_final v a

abbrev pub row_final : List ℕ → Row → Row
row_final v r = record { id = r.id; fate = r.fate; attempt = fate_final v r.fate r.attempt }

unfoldable pub finalise_ledger : ℕ → List ℕ → Ledger → Ledger
unfolding mark_ledger
finalise_ledger i v = mark_ledger (row_final v) i

by_fate : (v : List ℕ) (f : Fate) (a : DeliveryAttempt) → slots_by f (fate_final v f a) ≡ slots_final v (slots_by f a)
unfolding slots_final no_slots
by_fate v displaced a = refl
by_fate v struck a = refl
by_fate v aside a = refl
by_fate v live a = refl

no_slots_lem : (v : List ℕ) → no_slots ≡ slots_final v no_slots
unfolding slots_final no_slots
no_slots_lem v = refl

mark : (v : List ℕ) → Mark (slots_final v) (row_final v)
mark v = record { issues = λ r k. record { token = token r.fate r.attempt k; id = r.id }; opens = λ r. refl; shuts = λ r q. refl; slots = slots }
  where
    token : (f : Fate) (a : DeliveryAttempt) → (fate_final v f a).token.0 ≡ a.token.0
    token displaced a = refl
    token struck a = refl
    token aside a = refl
    token live a = refl

    slots : (rs : List Row) → slots_of (map (row_final v) rs) ≡ slots_final v (slots_of rs)
    slots [] = no_slots_lem v
    slots (r ∷ rs) = by_fate v r.fate r.attempt

pub finalise_law : (i : ℕ) (v : List ℕ) → Law (silent (mark_book (slots_final v) i)) (silent (finalise_ledger i v))
unfolding finalise_ledger
finalise_law i v = mark_law (mark v) i
