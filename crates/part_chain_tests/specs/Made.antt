-- The coins that a bundle makes, asked for by their ids. Paper 01 leaves this to `submission.rs`: "Coins created and consumed inside
-- this bundle are recreated on replay".
use Rattle.std.specs.Prelude.{◌≡◌, Bool, List, map, ℕ}
use Rattle.std.proofs.Common.{◌∙◌}
use Rattle.base_lists.specs.Laws.{any_same}
use Rattle.std.specs.List.{list_any}
use Rattle.base_lists.specs.Bytes.{eqs}
use Rattle.base_coin_string.specs.Coin.{coin_id_of}
use Rattle.book.specs.Sound.{spends_of, outputs_of}
use Rattle.book.specs.declared.Output.{Output}
use Rattle.book.specs.declared.CoinSpend.{CoinSpend}
use Rattle.book.specs.declared.SpendBundle.{SpendBundle}
use Rattle.book_coins.specs.Coins.{output_coin, expected_output_coins}
use Rattle.rules.specs.Doors.{among}
use Rattle.part_chain_tests.specs.ListLaws.{any_map, any_flat}

-- the coin of the output has this id
abbrev pub has_coin_id : List ℕ → CoinSpend → Output → Bool
has_coin_id id s o = eqs (coin_id_of (output_coin s o)) id

abbrev pub spend_makes : List ℕ → CoinSpend → Bool
spend_makes id s = list_any (has_coin_id id s) (outputs_of s)

abbrev pub bundle_makes : List ℕ → SpendBundle → Bool
bundle_makes id b = list_any (spend_makes id) (spends_of b)

-- the id is among those of the expected outputs
pub made_among : (b : SpendBundle) (id : List ℕ) → among (map coin_id_of (expected_output_coins b)) id ≡ bundle_makes id b
unfolding among expected_output_coins
made_among b id =
    any_map (λ y. eqs y id) coin_id_of (expected_output_coins b)
    ∙ any_flat (λ y. eqs (coin_id_of y) id) (λ s. map (output_coin s) (outputs_of s)) (spends_of b)
    ∙ any_same (λ s. list_any (λ y. eqs (coin_id_of y) id) (map (output_coin s) (outputs_of s))) (spend_makes id) (λ s. any_map (λ y. eqs (coin_id_of y) id) (output_coin s) (outputs_of s)) (spends_of b)
