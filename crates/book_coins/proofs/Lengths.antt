-- How many elements a field that is an array of structs has, from what the struct's typing says of the list mapped.
use mathlib.Core.Path.{◌≡◌, sym, ◌∙◌}
use mathlib.Core.List.{List, map}
use Prim.Native.Nat.{ℕ}
use lib.ListN.{length, length-map}
use Rattle.book.specs.declared.Output.{Output}
use Rattle.book.specs.declared.CoinSpend.{CoinSpend}
use Rattle.book.specs.contracts.Output as output
use Rattle.book.specs.contracts.CoinSpend as spend

pub spends_long : (l : List CoinSpend) (n : ℕ) → length (map (spend.the_field).into l) ≡ n → length l ≡ n
spends_long l n e = sym (length-map l (spend.the_field).into) ∙ e

pub outputs_long : (l : List Output) (n : ℕ) → length (map (output.the_field).into l) ≡ n → length l ≡ n
outputs_long l n e = sym (length-map l (output.the_field).into) ∙ e
