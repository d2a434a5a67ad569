-- All loops keep: nothing is found yet. The outer two: the answer of what is left (spends, outputs) is the answer of the whole search.
-- The inner one: the coin is observed exactly if it is among the listed coins left, of which the whole one at `at` is the first.
use Rattle.std.specs.Prelude.{None}
use Rattle.base_lists.specs.Bytes.{is_in}
use Rattle.base_coin_string.specs.Coin.{coin_bytes}
use Rattle.base_coin_string.specs.CoinList.{coins_from, coins_in}
use Rattle.book_coins.specs.Found.{found_of, in_spends, InOutputs, InSpends}
use mathlib.Core.Path.{◌≡◌}
use Prim.Native.Nat.{◌+◌, ◌-◌}
use lib.ListN.{take, drop}
use Rattle.book_coins.proofs.first_output_among.Given as goal

abbrev pub invariant-search : goal.invariant-search
invariant-search l = (l.found ≡ None) × InSpends (found_of (coins_in l.observed) l.b) (coins_in l.observed) l.i (drop l.i (take l.i-end l.b.spends))

abbrev pub invariant-loop-j : goal.invariant-loop-j
invariant-loop-j l = (l.found ≡ None) × InOutputs (found_of (coins_in l.observed) l.b) (coins_in l.observed) l.i l.j l.s (drop l.j (take l.j-end l.s.outputs))
    (in_spends (coins_in l.observed) (l.i + 1) (drop (l.i + 1) (take l.i-end l.b.spends)))

abbrev pub invariant-loop : goal.invariant-loop
invariant-loop l = (l.found ≡ None) × is_in (coins_in l.observed) (coin_bytes l.c) ≡ is_in (coins_from (l.n - l.counter) (drop l.at l.observed)) (coin_bytes l.c)
