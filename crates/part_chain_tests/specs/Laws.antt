-- What the tests answer, in the words of the rules.
use Rattle.std.specs.Prelude.{◌≡◌, refl, Bool, ◌||◌, List, [], ◌∷◌, map, ℕ, min, length, take}
use Rattle.std.proofs.Common.{sym, ap, ◌∙◌}
use Rattle.std.proofs.lemmas.List.{length-map}
use Rattle.base_lists.specs.Lists.{cells}
use Rattle.std.specs.List.{list_all, list_any}
use Rattle.base_lists.specs.Laws.{take_cells, count_cut, any_same}
use Rattle.base_lists.specs.Bytes.{eqs, is_in}
use Rattle.base_coin_string.specs.Coin.{coin_id_of}
use Rattle.book.specs.Zero.{zeros}
use Rattle.book.specs.Sound.{spends_of}
use Rattle.book.specs.declared.RetainedIntent.{RetainedIntent}
use Rattle.book.specs.declared.SpendBundle.{SpendBundle}
use Rattle.book_coins.specs.Coins.{input_coin_ids, expected_output_coins}
use Rattle.book_coins.specs.Found.{found_of, is_found, found_any}
use Rattle.book_coins.specs.Laws.{spent_id, input_ids}
use Rattle.rules.specs.Doors.{among}
use Rattle.rules.specs.Calls.ReconcileChainTerminality.{output_observed, input_spent}
use Rattle.rules.specs.Calls.CausallyRolledBackIds.{outer_input_ids}
use Rattle.part_chain_tests.specs.ListLaws.{all_same, all_filter}
use Rattle.part_chain_tests.specs.Made.{bundle_makes, made_among}

-- the rules' `among` is the code's `is_in`
pub among_in : (ys : List (List ℕ)) (x : List ℕ) → among ys x ≡ is_in ys x
unfolding among
among_in [] x = refl
among_in (y ∷ ys) x = ap (λ (b : Bool). eqs y x || b) (among_in ys x)

-- an output is found exactly if one is observed
pub found_observed : (seen : List (List ℕ)) (p : RetainedIntent) → is_found (found_of seen p.base_bundle) ≡ output_observed seen p
unfolding output_observed
found_observed seen p = found_any seen p.base_bundle ∙ sym (any_same (among seen) (is_in seen) (among_in seen) (expected_output_coins p.base_bundle))

pub spent_is : (seen : List (List ℕ)) (p : RetainedIntent) → list_any (is_in seen) (input_coin_ids p.base_bundle) ≡ input_spent seen p
unfolding input_spent
spent_is seen p = sym (any_same (among seen) (is_in seen) (among_in seen) (input_coin_ids p.base_bundle))

-- an input is live, or made by the bundle
abbrev pub live_or_made : List (List ℕ) → SpendBundle → List ℕ → Bool
live_or_made live b id = is_in live id || bundle_makes id b

pub outer_is : (live : List (List ℕ)) (b : SpendBundle) → list_all (live_or_made live b) (input_coin_ids b) ≡ list_all (among live) (outer_input_ids b)
unfolding outer_input_ids
outer_is live b =
    sym (all_filter (among live) (among (map coin_id_of (expected_output_coins b))) (input_coin_ids b)
    ∙ all_same (λ i. among live i || among (map coin_id_of (expected_output_coins b)) i) (live_or_made live b) (λ i. λ j. among_in live i j || made_among b i j) (input_coin_ids b))

-- ---- the ids four to a row: the first n of them are those of the bundle
module _ (b : SpendBundle) (n : ℕ) (long : length b.spends ≡ 4) (cut : n ≡ min b.count 4) {ids : List (List ℕ)} (held : ids ≡ cells 4 (zeros 32) (input_coin_ids b)) where
  rows : n ≡ length (input_coin_ids b)
  rows = count_cut 4 b.count n b.spends long cut ∙ sym (length-map (spends_of b) spent_id) ∙ ap length (input_ids b)

  pub rows_are : take n ids ≡ input_coin_ids b
  rows_are = ap (λ (k : ℕ). take k ids) rows ∙ ap (take (length (input_coin_ids b))) held ∙ take_cells 4 (zeros 32) (input_coin_ids b)
