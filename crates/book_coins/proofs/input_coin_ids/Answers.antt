use Rattle.base_lists.specs.Laws.{take_cut}
use Rattle.base_lists.specs.Lists.{cells}
use Rattle.book.specs.Zero.{zeros}
use Rattle.book.specs.Counted.{map_step}
use Rattle.book.specs.declared.CoinSpend.{CoinSpend}
use Rattle.book_coins.specs.Laws.{spent_id, input_ids}
use Rattle.book_coins.proofs.Lengths.{spends_long}
use borrow.Author.Rules.{rules}
use native.Mathlib.Omega.{arith}
use mathlib.Core.Path.{◌≡◌, ap, ◌∙◌}
use mathlib.Core.List.{List, map}
use Prim.Native.Nat.{ℕ}
use lib.ListN.{length, take, set}
use Rattle.book_coins.proofs.input_coin_ids.Goals as goal

pub loop-i-preserved : goal.loop-i-preserved
loop-i-preserved c =
    let spends = c.args.b.spends in let i = c.loop-i.i in let l : length spends ≡ 4 = search (rules, spends_long) in
    ap (set c.loop-i.ids i) c.input_coin_id.ensures ∙ map_step 4 (zeros 32) spent_id spends i _ c.loop-i.invariant (omega arith) (omega arith)

pub returns : goal.returns
returns c =
    let b = c.args.b in let n = c.at_most_four-i-end.result in
    let l : length b.spends ≡ 4 = search (rules, spends_long) in
    let e : c.loop-i.i ≡ n = omega arith in
    c.loop-i.invariant ∙ ap (λ (m : ℕ). cells 4 (zeros 32) (map spent_id (take m b.spends))) e
    ∙ ap (λ (ss : List CoinSpend). cells 4 (zeros 32) (map spent_id ss)) (take_cut 4 b.count n b.spends l c.at_most_four-i-end.ensures)
    ∙ ap (cells 4 (zeros 32)) (input_ids b)
