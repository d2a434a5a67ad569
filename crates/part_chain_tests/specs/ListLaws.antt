-- Laws of tests over lists that the tests of a bundle use.
use Rattle.std.specs.Prelude.{◌≡◌, refl, Bool, true, false, cond, not, ◌&&◌, ◌||◌, List, [], ◌∷◌, map}
use Rattle.std.proofs.Common.{ap, ◌∙◌}
use Rattle.base_lists.specs.Laws.{any_append}
use Rattle.std.specs.List.{list_all, list_any, filter, flat_map}

-- ---- the same test, and tests of what is mapped or joined
module _ {A : Type 0} where
  pub all_same : (p q : A → Bool) → ((x : A) → p x ≡ q x) → (xs : List A) → list_all p xs ≡ list_all q xs
  all_same p q h [] = refl
  all_same p q h (x ∷ xs) = λ i. h x i && all_same p q h xs i

  -- every element that passes q passes p
  pub all_filter : (p q : A → Bool) (xs : List A) → list_all p (filter (λ x. not (q x)) xs) ≡ list_all (λ x. p x || q x) xs
  all_filter p q [] = refl
  all_filter p q (x ∷ xs) = go (q x) (p x) refl (all_filter p q xs)
    where
      go : (s t : Bool) → p x ≡ t → list_all p (filter (λ y. not (q y)) xs) ≡ list_all (λ y. p y || q y) xs
          → list_all p (cond (not s) (x ∷ filter (λ y. not (q y)) xs) (filter (λ y. not (q y)) xs)) ≡ ((t || s) && list_all (λ y. p y || q y) xs)
      go true true e h = h
      go true false e h = h
      go false true e h = ap (λ (b : Bool). b && list_all p (filter (λ y. not (q y)) xs)) e ∙ h
      go false false e h = ap (λ (b : Bool). b && list_all p (filter (λ y. not (q y)) xs)) e

module _ {A B : Type 0} where
  pub any_map : (p : B → Bool) (f : A → B) (xs : List A) → list_any p (map f xs) ≡ list_any (λ x. p (f x)) xs
  any_map p f [] = refl
  any_map p f (x ∷ xs) = ap (λ (b : Bool). p (f x) || b) (any_map p f xs)

  pub any_flat : (p : B → Bool) (f : A → List B) (xs : List A) → list_any p (flat_map f xs) ≡ list_any (λ x. list_any p (f x)) xs
  any_flat p f [] = refl
  any_flat p f (x ∷ xs) = any_append p (f x) (flat_map f xs) ∙ ap (λ (b : Bool). list_any p (f x) || b) (any_flat p f xs)
