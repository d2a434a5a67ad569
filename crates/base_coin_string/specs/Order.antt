-- The order of byte lists, as Rust orders `Vec<u8>`: by the first byte that differs, and a beginning before what goes on.
use Rattle.std.specs.Prelude.{◌≡◌, refl, cond, List, [], ◌∷◌, ℕ, ltb}
use Rattle.base_coin_string.specs.declared.CoinString.{CoinString}
use Rattle.base_coin_string.specs.Coin.{coin_bytes}
use Rattle.std.specs.declared.cmp.Ordering.{Ordering}
use Rattle.std.specs.declared.cmp.Ordering.TheVariants.{Less, Equal, Greater}

abbrev pub order_of : List ℕ → List ℕ → Ordering
order_of [] [] = Equal
order_of [] (y ∷ ys) = Less
order_of (x ∷ xs) [] = Greater
order_of (x ∷ xs) (y ∷ ys) = cond (ltb x y) Less (cond (ltb y x) Greater (order_of xs ys))

abbrev pub cell_order : CoinString → CoinString → Ordering
cell_order a b = order_of (coin_bytes a) (coin_bytes b)

beginning : order_of (1 ∷ []) (1 ∷ 0 ∷ []) ≡ Less
beginning = refl

first_differs : order_of (1 ∷ 2 ∷ []) (1 ∷ 1 ∷ 9 ∷ []) ≡ Greater
first_differs = refl
