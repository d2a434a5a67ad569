-- The coins gathered so far, with those of the submissions left, make the whole list.
use Rattle.std.specs.List.{filter, flat_map}
use Rattle.base_coin_string.specs.CoinList.{coins_in}
use Rattle.book.specs.declared.SubmittedTx.{SubmittedTx}
use Rattle.rules.specs.CoinLists.{rising_coins}
use Rattle.rules.specs.Calls.ReconciliationInputCoins.{is_reconciled}
use Rattle.call_reconciliation_input_coins.specs.Inputs.{inputs_of, Gathering}
use mathlib.Core.List.{List}
use Prim.Native.Nat.{ℕ, ◌*◌, ◌≤◌}
use lib.ListN.{length, drop}
use Rattle.call_reconciliation_input_coins.proofs.input_coins_to_reconcile.Given as goal

abbrev pub all_of : List (List ℕ) → List SubmittedTx → List (List ℕ)
all_of outputs ts = rising_coins (flat_map inputs_of (filter (λ t. is_reconciled outputs t.entry) ts))

abbrev pub invariant-loop-t : goal.invariant-loop-t
invariant-loop-t l = (length l.retained ≤ 16) × (l.acc.count ≤ 4 * l.t-index)
    × Gathering (all_of (coins_in l.outputs) l.retained) (coins_in l.outputs) l.acc (drop l.t-index l.retained)
