-- The ids to remove: how many they are, and that the code's cells hold them.
use Rattle.std.specs.Prelude.{List, map, ◌≡◌, refl, ℕ, ◌≤◌, length}
use Rattle.std.proofs.Common.{ap, ◌∙◌}
use native.Mathlib.Omega.{arith}
use Rattle.part_ids.specs.IdLaws.{list_is}
use Rattle.base_lists.specs.Lists.{elemb, rising}
use Rattle.std.specs.List.{filter}
use Rattle.base_lists.specs.Laws.{filter_length, rising_length}
use Rattle.book.specs.declared.Ids.{Ids}
use Rattle.book.specs.Model.{Book, id_list, id_cells}
use Rattle.book.specs.Sound.{id_of}
use Rattle.book.specs.SoundLaws.{Fits}
use Rattle.rules.specs.Calls.RetainSubmitted.{to_remove}
use Rattle.part_withdraw.specs.IdLaws.{ids_fit}

module _ (m : Book) (f : Fits m) where
  pub some_fit : (is : List ℕ) → length (filter (λ i. elemb i is) (map id_of m.submitted)) ≤ 16
  some_fit is = let l = filter_length (λ (i : ℕ). elemb i is) (map id_of m.submitted) in let k = ids_fit m f in omega arith

  pub removed_fit : (is : List ℕ) → length (to_remove is m) ≤ 16
  unfolding to_remove
  removed_fit is = let l = rising_length (filter (λ (i : ℕ). elemb i is) (map id_of m.submitted)) in let k = some_fit is in omega arith

pub chosen_is : (xs : List ℕ) {held : Ids 16} → held ≡ id_cells 16 xs → {out : Ids 16} (is : List ℕ) → out ≡ id_cells 16 (filter (λ i. elemb i is) (id_list held)) → out ≡ id_cells 16 (filter (λ i. elemb i is) xs)
chosen_is xs h is o = o ∙ ap (λ (l : List ℕ). id_cells 16 (filter (λ i. elemb i is) l)) (list_is xs h)

pub remove_is : (is : List ℕ) (m : Book) → rising (filter (λ i. elemb i is) (map id_of m.submitted)) ≡ to_remove is m
unfolding to_remove
remove_is is m = refl
