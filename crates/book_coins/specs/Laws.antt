-- What the code uses of the definitions in Coins.
use Rattle.std.specs.Prelude.{◌≡◌, refl, false, List, [], ◌∷◌, map, ℕ, ◌≤◌, length, get_or, take}
use Rattle.std.proofs.Common.{ap}
use Rattle.base_coin_string.specs.Coin.{coin_id_of}
use Rattle.book.specs.Sound.{spends_of, outputs_of}
use Rattle.book.specs.declared.Output.{Output}
use Rattle.book.specs.declared.CoinSpend.{CoinSpend}
use Rattle.book.specs.declared.SpendBundle.{SpendBundle}
use Rattle.book_coins.specs.Coins.{coin_of, input_coin_ids}

-- the id of the coin that a spend spends
abbrev pub spent_id : CoinSpend → List ℕ
spent_id s = coin_id_of (coin_of s)

map_twice : (ss : List CoinSpend) → map spent_id ss ≡ map coin_id_of (map coin_of ss)
map_twice [] = refl
map_twice (s ∷ ss) = ap (λ (l : List (List ℕ)). spent_id s ∷ l) (map_twice ss)

pub input_ids : (b : SpendBundle) → map spent_id (spends_of b) ≡ input_coin_ids b
unfolding input_coin_ids
input_ids b = map_twice (spends_of b)

-- what is read past the end of an array of outputs, and of spends
abbrev pub no_output : Output
no_output = record { puzzle_hash = []; amount = 0 }

abbrev pub no_spend : CoinSpend
no_spend = record { coin_len = 0; coin = []; digest = []; readable = false; output_count = 0; outputs = [] }

-- output j of a spend
abbrev pub output_at : CoinSpend → ℕ → Output
output_at s j = get_or s.outputs j no_output

-- a count of outputs that a call has cut
pub record Outputs (s : CoinSpend) (n : ℕ) : Type 0 where
  pub most : n ≤ 4
  pub long : length s.outputs ≡ 4
  pub used : take n s.outputs ≡ outputs_of s
