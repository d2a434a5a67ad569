-- The place of the first element that passes, as `Iterator::position` answers it.
use Rattle.std.specs.Prelude.{Bool, List, ℕ, eqb, position, Option}
use Rattle.base_lists.specs.Bytes.{eqs}
use Rattle.book.specs.Model.{Book}
use Rattle.book.specs.Sound.{id_of}
use Rattle.book.specs.declared.SubmittedTx.{SubmittedTx}

abbrev pub place_of : {A : Type 0} → (A → Bool) → List A → Option ℕ
place_of p xs = position p xs

abbrev pub has_id : ℕ → SubmittedTx → Bool
has_id i t = eqb (id_of t) i

-- the place of the submission of this id
abbrev pub place_of_id : ℕ → Book → Option ℕ
place_of_id i m = place_of (has_id i) m.submitted

-- plan 1: "first retained of equal intent fingerprint"
abbrev pub has_intent : List ℕ → SubmittedTx → Bool
has_intent f t = eqs t.entry.intent.intent_fingerprint f
