-- Laws of loops over the first n of an array's cells.
use Rattle.std.specs.Prelude.{◌≡◌, List, [], ◌∷◌, map, ℕ, ◌+◌, ◌<◌, length, get_or, take, set}
use Rattle.std.proofs.Common.{sym, ap, ◌∙◌, add-one, arith, length-take-le, take-suc}
use Rattle.std.proofs.lemmas.List.{map-append, length-map}
use Rattle.base_lists.specs.Lists.{cells}
use Rattle.base_lists.specs.Laws.{push_cells}

-- one more of the first i mapped, in n cells
pub map_step : {A B : Type 0} (n : ℕ) (z : B) (f : A → B) (xs : List A) (i : ℕ) (d : A) {out : List B} → out ≡ cells n z (map f (take i xs)) → i < length xs → i < n → set out i (f (get_or xs i d)) ≡ cells n z (map f (take (i + 1) xs))
map_step {A} {B} n z f xs i d {out} e h k =
    let l : length (map f (take i xs)) ≡ i = length-map (take i xs) f ∙ length-take-le i xs (omega arith) in
    ap (λ (o : List B). set o i (f (get_or xs i d))) e
    ∙ ap (λ (j : ℕ). set (cells n z (map f (take i xs))) j (f (get_or xs i d))) (sym l)
    ∙ push_cells n z (map f (take i xs)) (f (get_or xs i d)) (omega arith)
    ∙ ap (cells n z) (sym (map-append f (take i xs) (get_or xs i d ∷ [])) ∙ ap (map f) (sym (take-suc xs i d h) ∙ ap (λ (j : ℕ). take j xs) (sym (add-one i))))

-- ---- a choice by a test
