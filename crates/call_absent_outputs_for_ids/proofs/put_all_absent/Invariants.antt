-- The coins put so far, with the absent outputs of the submissions left, make the whole list.
use Rattle.base_coin_string.specs.CoinList.{coins_in}
use Rattle.call_absent_outputs_for_ids.specs.Outputs.{absent_of_all, Collecting}
use Prim.Native.Nat.{◌*◌, ◌≤◌}
use lib.ListN.{length, drop}
use Rattle.call_absent_outputs_for_ids.proofs.put_all_absent.Given as goal

abbrev pub invariant-loop-t : goal.invariant-loop-t
invariant-loop-t l = (length l.retained ≤ 16) × (l.at ≤ 1184 * l.t-index) × (l.count ≤ 16 * l.t-index)
    × Collecting l.ids (coins_in l.absent) (absent_of_all l.ids (coins_in l.absent) l.retained) l.initial.out l.out l.at l.count (drop l.t-index l.retained)
