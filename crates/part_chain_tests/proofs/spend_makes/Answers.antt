-- The parent is the spent coin's id, as the rules build the coin; the count cut at 4 takes the outputs of the spend.
use borrow.Author.Rules.{rules}
use mathlib.Core.List.{List}
use mathlib.Core.Path.{◌≡◌, ap, ◌∙◌}
use Prim.Native.Nat.{ℕ}
use lib.ListN.{length, take}
use Rattle.std.specs.List.{list_any}
use Rattle.base_lists.specs.Bytes.{eqs}
use Rattle.base_lists.specs.Laws.{take_cut}
use Rattle.base_coin_string.specs.Coin.{coin_of_parts, coin_id_of}
use Rattle.book_coins.proofs.Lengths.{outputs_long}
use Rattle.book_coins.specs.Coins.{output_coin}
use Rattle.part_chain_tests.specs.Made.{has_coin_id}
use Rattle.part_chain_tests.proofs.spend_makes.Goals as goal

pub returns : goal.returns
unfolding output_coin
returns c =
    let s = c.args.s in let n = c.at_most_four-n in let l : length s.outputs ≡ 4 = search (rules, outputs_long) in
    c.outputs_make.ensures
    ∙ ap (λ (p : List ℕ). list_any (λ o. eqs (coin_id_of (coin_of_parts p o.puzzle_hash o.amount)) c.args.id) (take n.result s.outputs)) c.input_coin_id.ensures
    ∙ ap (list_any (has_coin_id c.args.id s)) (take_cut 4 s.output_count n.result s.outputs l n.ensures)
