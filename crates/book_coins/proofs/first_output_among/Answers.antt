use Rattle.base_lists.specs.Laws.{counted_step}
use Rattle.base_lists.specs.Bytes.{in_hit, in_turn, in_done}
use Rattle.base_coin_string.specs.declared.CoinString.{CoinString}
use Rattle.base_coin_string.specs.Coin.{coin_of_parts, coin_bytes, FromParts, from_parts_bytes}
use Rattle.book.specs.declared.CoinSpend.{CoinSpend}
use Rattle.base_coin_string.specs.CoinList.{coins_from}
use Rattle.base_coin_string.specs.CoinListLaws.{whole, broken, coins_end}
use Rattle.book_coins.specs.Coins.{output_coin}
use Rattle.book_coins.specs.Laws.{no_spend, no_output, output_at, spent_id}
use Rattle.book_coins.specs.Found.{hit, miss}
use native.Mathlib.Omega.{arith}
use mathlib.Core.Path.{◌≡◌, sym, ap, ◌∙◌}
use mathlib.Core.List.{List, []}
use Prim.Native.Nat.{ℕ, ◌+◌, ◌-◌}
use lib.ListN.{get_or, drop}
use Rattle.book_coins.proofs.first_output_among.Goals as goal
use Rattle.book_coins.proofs.first_output_among.Goals.{else-loop-test, then-loop-test+in_default}

-- the coin that was looked for is that of the next output
looked_for : (s : CoinSpend) (j : ℕ) {p : List ℕ} {c : CoinString} → FromParts p (output_at s j).puzzle_hash (output_at s j).amount c → p ≡ spent_id s → coin_bytes c ≡ output_coin s (output_at s j)
unfolding output_coin
looked_for s j f e = from_parts_bytes f ∙ ap (λ (q : List ℕ). coin_of_parts q (output_at s j).puzzle_hash (output_at s j).amount) e

pub loop-preserved : goal.loop-preserved
loop-preserved c =
    let w = whole c.args.observed.now c.loop.at c.in-Some.to c.in-Some.ensures in
    let n = c.list_count-n.result in
    let e : n - (c.loop.counter + 1) ≡ n - c.loop.counter - 1 = omega arith in (
      c.loop.invariant.0,
      rw e (in_turn (coin_bytes c.output_coin-c.result) (w.coins (n - c.loop.counter) (omega arith)) (sym c.if-coin_is.false ∙ c.coin_is.ensures) c.loop.invariant.1),
    )

pub returns-then-coin_is : goal.returns-then-coin_is
returns-then-coin_is c =
    let outs = c.output_count-j-end in let s = get_or c.args.b.spends c.search.i no_spend in
    let w = whole c.args.observed.now c.loop.at c.in-Some.to c.in-Some.ensures in
    hit c.loop-j.invariant.1
    (counted_step s.outputs outs.result c.loop-j.j no_output c.loop-j-test.true (omega (arith, outs.ensures.most, outs.ensures.long)))
    (looked_for s c.loop-j.j c.output_coin-c.ensures c.input_coin_id-parent.ensures)
    (in_hit (coin_bytes c.output_coin-c.result) (w.coins (c.list_count-n.result - c.loop.counter) (omega arith)) (sym c.if-coin_is.true ∙ c.coin_is.ensures) c.loop.invariant.1)

pub loop-j-preserved : goal.loop-j-preserved
loop-j-preserved c =
    let outs = c.output_count-j-end in let s = get_or c.args.b.spends c.search.i no_spend in
    let at = c.loop.at in let left = c.list_count-n.result - c.loop.counter in
    let none : coins_from left (drop at c.args.observed.now) ≡ [] = elim c.loop-test.branch [
      | else-loop-test w ↦ coins_end (drop at c.args.observed.now) left (omega arith)
      | then-loop-test+in_default w ↦ (broken c.args.observed.now at w.in_default.ensures).coins left
    ] in (
      c.loop.invariant.0,
      miss c.loop-j.invariant.1
          (counted_step s.outputs outs.result c.loop-j.j no_output c.loop-j-test.true (omega (arith, outs.ensures.most, outs.ensures.long)))
          (looked_for s c.loop-j.j c.output_coin-c.ensures c.input_coin_id-parent.ensures)
          (in_done (coin_bytes c.output_coin-c.result) none c.loop.invariant.1),
    )
