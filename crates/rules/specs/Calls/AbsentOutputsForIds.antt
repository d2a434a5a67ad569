-- `absent_outputs_for_ids`: of the listed submissions the outputs that are absent, in retained and output order, repeats kept.
use Rattle.std.specs.Prelude.{ℕ, cond, ◌&&◌, List}
use Rattle.base_lists.specs.Lists.{elemb}
use Rattle.std.specs.List.{filter, flat_map}
use Rattle.base_coin_string.specs.CoinList.{coins_in, coin_listb}
use Rattle.book.specs.declared.RetainedIntent.{RetainedIntent}
use Rattle.book.specs.Sound.{id_of}
use Rattle.book_coins.specs.Coins.{expected_output_coins}
use Rattle.rules.specs.Calls.Common.{writing}
use Rattle.rules.specs.CoinLists.{encode_coins}
use Rattle.rules.specs.Doors.{ids_ok, among}
use Rattle.rules.specs.Rule.{Rule, undo, ◌>>=◌, book}
use Rattle.book.specs.declared.refusal.Refusal.TheVariants as refusals

unfoldable pub absent_outputs : List (List ℕ) → RetainedIntent → List (List ℕ)
unfolding among expected_output_coins
absent_outputs absent p = filter (among absent) (expected_output_coins p.base_bundle)

unfoldable pub absent_outputs_for_ids : List ℕ → List ℕ → ℕ → Rule (List ℕ)
unfolding ids_ok absent_outputs encode_coins writing
absent_outputs_for_ids is absent room = cond (ids_ok is && coin_listb absent)
    (do
      b ← book
      writing room (encode_coins (flat_map (λ t. absent_outputs (coins_in absent) t.entry.intent) (filter (λ t. elemb (id_of t) is) b.submitted))))
    (undo refusals.BadList)
