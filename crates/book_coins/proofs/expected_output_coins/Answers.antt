use Rattle.base_lists.specs.Laws.{counted_step, counted_end, take_cut}
use Rattle.book_coins.specs.declared.OutputCoins.{OutputCoins}
use Rattle.book_coins.specs.Coins.{expected_output_coins}
use Rattle.book_coins.specs.Laws.{no_spend}
use Rattle.book_coins.specs.Outputs.{laying_start, laying_turn, laying_done}
use Rattle.book_coins.proofs.Lengths.{spends_long}
use borrow.Author.Rules.{rules}
use native.Mathlib.Omega.{arith}
use mathlib.Core.Path.{◌≡◌, ap}
use lib.ListN.{length, take}
use Rattle.book_coins.proofs.expected_output_coins.Goals as goal

pub loop-i-init : goal.loop-i-init
unfolding expected_output_coins
loop-i-init c =
    let b = c.args.b in let n = c.at_most_four-i-end in let l : length b.spends ≡ 4 = search (rules, spends_long) in (
      omega (arith, ap (λ (r : OutputCoins). r.count) c.no_outputs-coins.ensures),
      rw (take_cut 4 b.count n.result b.spends l n.ensures) (laying_start (take b.count b.spends) c.no_outputs-coins.ensures),
    )

pub loop-i-preserved : goal.loop-i-preserved
loop-i-preserved c =
    let b = c.args.b in let l : length b.spends ≡ 4 = search (rules, spends_long) in (
      omega (arith, c.loop-i.invariant.0, c.push_outputs.ensures.few),
      laying_turn c.loop-i.invariant.1 (counted_step b.spends c.at_most_four-i-end.result c.loop-i.i no_spend c.loop-i-test.true (omega arith)) c.push_outputs.ensures,
    )

pub returns : goal.returns
returns c =
    let b = c.args.b in let l : length b.spends ≡ 4 = search (rules, spends_long) in (
      laying_done c.loop-i.invariant.1 (counted_end b.spends c.at_most_four-i-end.result c.loop-i.i c.loop-i-test.false (omega arith)),
      omega arith,
    )
