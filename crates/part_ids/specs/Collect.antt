-- Loops that put the keys of the elements that pass into cells.
use Rattle.std.specs.Prelude.{◌≡◌, refl, Bool, true, false, cond, List, [], ◌∷◌, ◌++◌, map, ℕ, ◌+◌, ◌≤◌, ◌<◌, length, take, drop, set, replicate}
use Rattle.std.proofs.Common.{sym, ap, ◌∙◌, append-nil, arith, length-append}
use Rattle.std.specs.List.{filter}
use Rattle.base_lists.specs.Laws.{snoc_append}
use Rattle.book.specs.Model.{id_list, id_cells}
use Rattle.book.specs.declared.Ids.{Ids}
use Rattle.part_ids.specs.IdLaws.{counted_ids, list_is, cells_are}

-- ---- a loop that puts the key of each element that passes behind the others: i elements are looked at
module _ {A : Type 0} {N : ℕ} (key : A → ℕ) (p : A → Bool) (xs : List A) where
  pub record Collecting (out : Ids N) (i : ℕ) : Type 0 where
    pub few : out.count ≤ i
    pub normal : out ≡ id_cells N (id_list out)
    pub rest : id_list out ++ map key (filter p (drop i xs)) ≡ map key (filter p xs)

  pub collect_start : {out : Ids N} → out ≡ id_cells N [] → Collecting out 0
  collect_start {out} e = record {
    few = let c = (counted_ids out [] e).count in omega arith;
    normal = cells_are [] e;
    rest = ap (λ (l : List ℕ). l ++ map key (filter p xs)) (list_is [] e);
  }

  module _ {out : Ids N} {i : ℕ} (c : Collecting out i) where
    module _ {x : A} (e : drop i xs ≡ x ∷ drop (i + 1) xs) where
      left : {t : Bool} → p x ≡ t → id_list out ++ map key (cond t (x ∷ filter p (drop (i + 1) xs)) (filter p (drop (i + 1) xs))) ≡ map key (filter p xs)
      left h =
          sym (ap (λ (l : List A). id_list out ++ map key (filter p l)) e
          ∙ ap (λ (t : Bool). id_list out ++ map key (cond t (x ∷ filter p (drop (i + 1) xs)) (filter p (drop (i + 1) xs)))) h)
          ∙ c.rest

      pub collect_keep : p x ≡ true → {next : Ids N} → next ≡ id_cells N (id_list out ++ key x ∷ []) → Collecting next (i + 1)
      collect_keep h {next} n = record {
        few =
            let a = (counted_ids next (id_list out ++ key x ∷ []) n).count in
            let b = (counted_ids out (id_list out) c.normal).count in
            omega (arith, length-append (id_list out) (key x ∷ []), c.few);
        normal = cells_are (id_list out ++ key x ∷ []) n;
        rest =
            ap (λ (l : List ℕ). l ++ map key (filter p (drop (i + 1) xs))) (list_is (id_list out ++ key x ∷ []) n)
            ∙ snoc_append (id_list out) (key x) (map key (filter p (drop (i + 1) xs))) ∙ left h;
      }

      pub collect_skip : p x ≡ false → Collecting out (i + 1)
      collect_skip h = record { few = omega (arith, c.few); normal = c.normal; rest = left h }

    pub collect_all : drop i xs ≡ [] → out ≡ id_cells N (map key (filter p xs))
    collect_all e = c.normal ∙ ap (id_cells N) (sym (append-nil (id_list out)) ∙ sym (ap (λ (l : List A). id_list out ++ map key (filter p l)) e) ∙ c.rest)
