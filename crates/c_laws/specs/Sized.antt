-- With memory of the header's sizes no call of a list is refused 12, and the ledger hears of every call whose arguments stand for values.
use Rattle.std.specs.Prelude.{ℕ, ◌≤◌, ◌≡◌, length}
use mathlib.Core.List.{List, [], ◌∷◌, ◌++◌}
use Rattle.book.specs.Model.{Book}
use Rattle.book.specs.Typed.{Every}
use Rattle.rules.specs.Call.{Call}
use Rattle.rules_answers.specs.Kind.{kind_of, answer_bytes}
use Rattle.c_api.specs.Functions.{CCall, Returned}
use Rattle.c_laws.specs.Functions.{lent, Asked, asks, bad_list, bad_value, call_of, OnCall}
use Rattle.c_laws.specs.Listed.{calls}
use Rattle.book.specs.Refusals as refusals

-- the answer is lent the header's size
abbrev pub HeaderSize : CCall → Type 0
HeaderSize c = OnCall (λ k. answer_bytes (kind_of k) ≤ length (lent c).answer) (call_of c)

-- the calls whose arguments stand for values
abbrev pub asked_in : Asked → List Call
asked_in (asks c) = c ∷ []
asked_in bad_list = []
asked_in bad_value = []

unfoldable pub calls_in : List CCall → List Call
calls_in [] = []
calls_in (c ∷ cs) = asked_in (call_of c) ++ calls_in cs

-- ---- a list of calls
pub record Sized (n : ℕ) (m : Book) (cs : List CCall) (rs : List Returned) : Type 0 where
  pub never_12 : Every (λ r. r.number ≡ refusals.short_buffer → ⊥) rs
  pub all_heard : calls n m cs ≡ calls_in cs
