-- A fold over the spends of a bundle is the fold over their amounts.
use Rattle.std.specs.Prelude.{◌≡◌, refl, List, [], ◌∷◌}
use Rattle.std.proofs.Common.{sym, ◌∙◌}
use Rattle.std.proofs.lemmas.List.Sums.{fold-append}
use Rattle.std.specs.List.{fold, flat_map}

pub fold_parts : {A B C : Type 0} (f : C → B → C) (g : A → List B) (c : C) (l : List A) → fold (λ d x. fold f d (g x)) c l ≡ fold f c (flat_map g l)
fold_parts f g c [] = refl
fold_parts f g c (x ∷ l) = fold_parts f g (fold f c (g x)) l ∙ sym (fold-append f c (g x) (flat_map g l))
