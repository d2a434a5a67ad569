-- The loop keeps: the coin is listed exactly if it is among the coins left, of which the whole one at `at` is the first.
use mathlib.Core.Path.{◌≡◌}
use Prim.Native.Nat.{◌-◌}
use lib.ListN.{take, drop}
use Rattle.base_lists.specs.Bytes.{is_in}
use Rattle.base_coin_string.specs.CoinList.{coins_from, coins_in}
use Rattle.base_coin_string.proofs.has_coin.Given as goal

abbrev pub invariant-loop-i : goal.invariant-loop-i
invariant-loop-i l = is_in (coins_in l.s) (take l.len l.coin) ≡ is_in (coins_from (l.count - l._i) (drop l.at l.s)) (take l.len l.coin)
