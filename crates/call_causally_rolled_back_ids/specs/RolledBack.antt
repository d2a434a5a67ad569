-- The ids of the submissions that the chain has rolled back.
use Rattle.std.specs.Prelude.{◌≡◌, Bool, true, false, cond, ◌&&◌, List, [], map, ℕ, ◌≤◌, length}
use Rattle.std.proofs.Math.Path.{sym}
use Rattle.std.proofs.Common.{ap, ◌∙◌, arith}
use Rattle.std.proofs.lemmas.List.{length-map}
use Rattle.base_lists.specs.Lists.{rising}
use Rattle.std.specs.List.{filter}
use Rattle.base_lists.specs.Laws.{filter_length, rising_length}
use Rattle.base_coin_string.specs.CoinIds.{id_listb, ids_in}
use Rattle.base_coin_string.specs.CoinList.{coins_in, coin_listb}
use Rattle.book.specs.Model.{Book, view, id_list, id_cells}
use Rattle.book.specs.Sound.{id_of, soundb}
use Rattle.book.specs.SoundLaws.{back_view}
use Rattle.book.specs.declared.BookData.{BookData}
use Rattle.book.specs.declared.Ids.{Ids}
use Rattle.book.specs.declared.SubmittedTx.{SubmittedTx}
use Rattle.rules.specs.Rule.{done, undo, look, Outcome, ended, undone, run}
use Rattle.rules.specs.Steps.{run_book}
use Rattle.rules.specs.Calls.CausallyRolledBackIds.{rolled_back, causally_rolled_back_ids}
use Rattle.part_ids.specs.IdLaws.{counted_ids, list_is}
use Rattle.part_replies.specs.Reply.{ids_reply}
use Rattle.std.specs.Prelude.{Ok}
use Rattle.book.specs.declared.refusal.Refusal.TheVariants as refusals

abbrev pub is_rolled_back : List (List ℕ) → List (List ℕ) → SubmittedTx → Bool
is_rolled_back absent inputs t = rolled_back absent inputs t.entry

-- their ids, in the book's order
abbrev pub rolled_back_ids : List (List ℕ) → List (List ℕ) → Book → List ℕ
rolled_back_ids absent inputs m = map id_of (filter (is_rolled_back absent inputs) m.submitted)

-- the ids of up to 16 submissions, as they stand and rising, and in the cells of an answer
module _ (absent inputs : List (List ℕ)) (m : Book) (short : length m.submitted ≤ 16) (found : Ids 16) (is : found ≡ id_cells 16 (rolled_back_ids absent inputs m)) where
  found_few : length (id_list found) ≤ 16
  found_few =
      let l : length (id_list found) ≡ length (rolled_back_ids absent inputs m) = ap length (list_is (rolled_back_ids absent inputs m) is) in
      omega (arith, length-map (filter (is_rolled_back absent inputs) m.submitted) id_of, filter_length (is_rolled_back absent inputs) m.submitted)

  pub found_count : found.count ≤ 16
  found_count = let c = (counted_ids found (rolled_back_ids absent inputs m) is).count in let l = ap length (list_is (rolled_back_ids absent inputs m) is) in omega (arith, found_few)

  module _ (up : Ids 16) (rises : up ≡ id_cells 16 (rising (id_list found))) where
    pub up_count : up.count ≤ 16
    up_count = let c = (counted_ids up (rising (id_list found)) rises).count in omega (arith, rising_length (id_list found), found_few)

    pub up_ids : {x : Ids 64} → x ≡ id_cells 64 (id_list up) → x ≡ id_cells 64 (rising (rolled_back_ids absent inputs m))
    up_ids e = e ∙ ap (id_cells 64) (list_is (rising (id_list found)) rises ∙ ap rising (list_is (rolled_back_ids absent inputs m) is))

-- ---- the call's answers
module _ (absent inputs : List ℕ) where
  abbrev doors : Bool
  doors = coin_listb absent && id_listb inputs

  abbrev answer : Book → List ℕ
  answer m = rising (rolled_back_ids (coins_in absent) (ids_in inputs) m)

  abbrev by_doors : Book → Bool → Outcome Book (List ℕ)
  by_doors m t = run_book (cond t (look (λ b. done (answer b))) (undo refusals.BadList)) m

  pub lists_told : {c l t : Bool} → c ≡ coin_listb absent → l ≡ id_listb inputs → (c && l) ≡ t → doors ≡ t
  lists_told p q h = sym (λ j. p j && q j) ∙ h

  pub rolled_back_shut : (m : Book) → doors ≡ false → undone refusals.BadList ≡ run_book (causally_rolled_back_ids absent inputs) m
  unfolding run causally_rolled_back_ids
  rolled_back_shut m e = sym (ap (by_doors m) e)

  rolled_back_open : (m : Book) → doors ≡ true → ended m [] (answer m) ≡ run_book (causally_rolled_back_ids absent inputs) m
  unfolding run causally_rolled_back_ids
  rolled_back_open m e = sym (ap (by_doors m) e)

  pub rolled_back_reply : (b : BookData) (x : Ids 64) → soundb b ≡ true → doors ≡ true → x ≡ id_cells 64 (rising (rolled_back_ids (coins_in absent) (ids_in inputs) (view b)))
      → record { answer = Ok x; book = b } ≡ ids_reply b (run_book (causally_rolled_back_ids absent inputs) (view b))
  rolled_back_reply b x s e h = (λ j. record { answer = Ok (h j); book = sym (back_view b s) j }) ∙ ap (ids_reply b) (rolled_back_open (view b) e)
