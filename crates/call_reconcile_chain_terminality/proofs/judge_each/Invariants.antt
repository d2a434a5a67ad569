-- The run of what is left to judge, over the book so far, is the whole run.
use Rattle.base_coin_string.specs.CoinIds.{ids_in}
use Rattle.base_coin_string.specs.CoinList.{coins_in}
use Rattle.book.specs.Model.{view}
use Rattle.rules.specs.Steps.{run_book}
use Rattle.rules.specs.Calls.ReconcileChainTerminality.{judge_each}
use mathlib.Core.Path.{◌≡◌}
use lib.ListN.{length, drop}
use Rattle.call_reconcile_chain_terminality.proofs.judge_each.Given as goal

abbrev pub invariant-loop-k : goal.invariant-loop-k
invariant-loop-k l = (l.k-end ≡ length (view l.out.parts).submitted)
    × (run_book (judge_each (coins_in l.observed) (ids_in l.spent) l.reorg l.rolled_back (view l.fn.b.parts).submitted) (view l.fn.b.parts)
    ≡ run_book (judge_each (coins_in l.observed) (ids_in l.spent) l.reorg l.rolled_back (drop l.k (view l.out.parts).submitted)) (view l.out.parts))
