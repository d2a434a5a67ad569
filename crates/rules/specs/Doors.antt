-- Refusal 2, besides coin lists and coin ids (`coin_listb`, `id_listb` of base_coin_string): "over 64 submission ids"; and being one of a list of coins.
use Rattle.std.specs.Prelude.{ℕ, Bool, List, leb, length}
use Rattle.base_lists.specs.Bytes.{eqs}
use Rattle.std.specs.List.{list_any}

unfoldable pub ids_ok : List ℕ → Bool
ids_ok is = leb (length is) 64

-- a coin, or a coin id, is among others
unfoldable pub among : List (List ℕ) → List ℕ → Bool
among ys x = list_any (λ y. eqs y x) ys
