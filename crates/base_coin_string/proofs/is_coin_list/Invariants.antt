-- The loop keeps: the bytes are a coin list exactly if the coins left use up those from `at` on, and `at` is not past the end.
use mathlib.Core.Path.{◌≡◌}
use Prim.Native.Nat.{◌-◌, ◌≤◌}
use lib.ListN.{length, drop}
use Rattle.base_coin_string.specs.CoinList.{used_up, coin_listb}
use Rattle.base_coin_string.proofs.is_coin_list.Given as goal

abbrev pub invariant-loop-i : goal.invariant-loop-i
invariant-loop-i l = (l.at ≤ length l.s) × (coin_listb l.s ≡ used_up (l.count - l._i) (drop l.at l.s))
