-- `causally_rolled_back_ids`, rising: InputSpent, or Landed with an absent output, and every input from outside the bundle live.
use Rattle.std.specs.Prelude.{ℕ, Bool, cond, not, ◌&&◌, ◌||◌, List, map}
use Rattle.base_lists.specs.Lists.{rising}
use Rattle.std.specs.List.{list_all, list_any, filter}
use Rattle.base_coin_string.specs.Coin.{coin_id_of}
use Rattle.base_coin_string.specs.CoinIds.{id_listb, ids_in}
use Rattle.base_coin_string.specs.CoinList.{coins_in, coin_listb}
use Rattle.book.specs.declared.SpendBundle.{SpendBundle}
use Rattle.book.specs.declared.SubmittedEntry.{SubmittedEntry}
use Rattle.book.specs.Sound.{id_of}
use Rattle.book_coins.specs.Coins.{input_coin_ids, expected_output_coins}
use Rattle.rules.specs.Doors.{among}
use Rattle.rules.specs.Parts.{active_entry, is_input_spent}
use Rattle.rules.specs.Rule.{done, Rule, undo, ◌>>=◌, book}
use Rattle.book.specs.declared.refusal.Refusal.TheVariants as refusals

-- "Coins created and consumed inside this bundle are recreated on replay"
unfoldable pub outer_input_ids : SpendBundle → List (List ℕ)
unfolding among input_coin_ids expected_output_coins
outer_input_ids b = filter (λ i. not (among (map coin_id_of (expected_output_coins b)) i)) (input_coin_ids b)

unfoldable pub rolled_back : List (List ℕ) → List (List ℕ) → SubmittedEntry → Bool
unfolding among expected_output_coins outer_input_ids
rolled_back absent inputs e =
    not (active_entry e) && (is_input_spent e.state.status.chain_terminality || list_any (among absent) (expected_output_coins e.intent.base_bundle))
    && list_all (among inputs) (outer_input_ids e.intent.base_bundle)

unfoldable pub causally_rolled_back_ids : List ℕ → List ℕ → Rule (List ℕ)
unfolding rolled_back
causally_rolled_back_ids absent inputs = cond (coin_listb absent && id_listb inputs)
    (do
      b ← book
      done (rising (map id_of (filter (λ t. rolled_back (coins_in absent) (ids_in inputs) t.entry) b.submitted))))
    (undo refusals.BadList)
