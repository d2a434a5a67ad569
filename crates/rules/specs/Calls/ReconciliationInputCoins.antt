-- `reconciliation_input_coins`: the input coins of every submission that has not landed, or an output of which is to be retained;
-- "rising by bytes, without repeats".
use Rattle.std.specs.Prelude.{ℕ, Bool, cond, not, ◌||◌, List}
use Rattle.std.specs.List.{list_any, filter, flat_map}
use Rattle.base_coin_string.specs.CoinList.{coins_in, coin_listb}
use Rattle.book.specs.declared.SubmittedEntry.{SubmittedEntry}
use Rattle.book.specs.Model.{Book}
use Rattle.book_coins.specs.Coins.{input_coins, expected_output_coins}
use Rattle.rules.specs.Calls.Common.{writing}
use Rattle.rules.specs.CoinLists.{rising_coins, encode_coins}
use Rattle.rules.specs.Doors.{among}
use Rattle.rules.specs.Parts.{is_landed}
use Rattle.rules.specs.Rule.{Rule, undo, ◌>>=◌, book}
use Rattle.book.specs.declared.refusal.Refusal.TheVariants as refusals

unfoldable pub is_reconciled : List (List ℕ) → SubmittedEntry → Bool
unfolding among expected_output_coins
is_reconciled outputs e = not (is_landed e.state.status.chain_terminality) || list_any (among outputs) (expected_output_coins e.intent.base_bundle)

unfoldable pub input_coins_to_reconcile : List (List ℕ) → Book → List (List ℕ)
unfolding is_reconciled rising_coins
input_coins_to_reconcile outputs b = rising_coins (flat_map (λ t. input_coins t.entry.intent.base_bundle) (filter (λ t. is_reconciled outputs t.entry) b.submitted))

unfoldable pub reconciliation_input_coins : List ℕ → ℕ → Rule (List ℕ)
unfolding input_coins_to_reconcile encode_coins writing
reconciliation_input_coins outputs room = cond (coin_listb outputs)
    (do
      b ← book
      writing room (encode_coins (input_coins_to_reconcile (coins_in outputs) b)))
    (undo refusals.BadList)
