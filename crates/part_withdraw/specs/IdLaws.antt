-- The ids of a book's submissions fit, and are put in rising order.
use Rattle.std.specs.Prelude.{List, map, ◌≡◌, ℕ, ◌≤◌, length}
use Rattle.std.proofs.Common.{ap, ◌∙◌, arith}
use Rattle.std.proofs.lemmas.List.{length-map}
use Rattle.base_lists.specs.Lists.{rising}
use Rattle.book.specs.declared.Ids.{Ids}
use Rattle.book.specs.Model.{Book, id_list, id_cells}
use Rattle.book.specs.Sound.{id_of}
use Rattle.book.specs.SoundLaws.{Fits}
use Rattle.part_ids.specs.IdLaws.{list_is}

pub ids_fit : (m : Book) → Fits m → length (map id_of m.submitted) ≤ 16
ids_fit m f = let l = length-map m.submitted id_of in let k = f.submitted in omega arith

-- rising from what the cells before held
pub rising_is : (xs : List ℕ) {held : Ids 16} → held ≡ id_cells 16 xs → {out : Ids 16} → out ≡ id_cells 16 (rising (id_list held)) → out ≡ id_cells 16 (rising xs)
rising_is xs h o = o ∙ ap (λ (l : List ℕ). id_cells 16 (rising l)) (list_is xs h)
