-- The coins that a bundle spends and makes: `SubmittedTx::spent_coin_ids` and `expected_output_coins`.
use Rattle.std.specs.Prelude.{List, map, ℕ, take}
use Rattle.std.specs.List.{flat_map}
use Rattle.base_coin_string.specs.Coin.{coin_of_parts, coin_id_of}
use Rattle.book.specs.Sound.{spends_of, outputs_of}
use Rattle.book.specs.declared.Output.{Output}
use Rattle.book.specs.declared.CoinSpend.{CoinSpend}
use Rattle.book.specs.declared.SpendBundle.{SpendBundle}

abbrev pub coin_of : CoinSpend → List ℕ
coin_of s = take s.coin_len s.coin

abbrev pub input_coins : SpendBundle → List (List ℕ)
input_coins b = map coin_of (spends_of b)

-- `spent_coin_ids`
unfoldable pub input_coin_ids : SpendBundle → List (List ℕ)
input_coin_ids b = map coin_id_of (input_coins b)

-- the coin of an output: its parent is the spent coin's id
unfoldable pub output_coin : CoinSpend → Output → List ℕ
output_coin s o = coin_of_parts (coin_id_of (coin_of s)) o.puzzle_hash o.amount

-- `expected_output_coins` of a readable bundle, in order
unfoldable pub expected_output_coins : SpendBundle → List (List ℕ)
unfolding output_coin
expected_output_coins b = flat_map (λ s. map (output_coin s) (outputs_of s)) (spends_of b)
