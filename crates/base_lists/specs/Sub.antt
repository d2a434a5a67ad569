-- Sublists: what keeps distinctness.
use Rattle.std.specs.Prelude.{◌≡◌, refl, Bool, true, false, cond, not, ◌||◌, List, [], ◌∷◌, ◌++◌, map, ℕ, eqb}
use Rattle.std.proofs.Common.{sym, ap, ◌∙◌, ne_eqb}
use Rattle.std.proofs.lemmas.Bool.{not-true, eqb-false}
use Rattle.base_lists.specs.Lists.{elemb, distinctb, push_new}
use Rattle.std.specs.List.{list_all, filter, flat_map}
use Rattle.base_lists.specs.Laws.{and_split, and_both, or-false, elem_append}

pub data Sub {A : Type 0} : List A → List A → Type 0 where
  done : Sub [] []
  keep : {x : A} {xs ys : List A} → Sub xs ys → Sub (x ∷ xs) (x ∷ ys)
  skip : {x : A} {xs ys : List A} → Sub xs ys → Sub xs (x ∷ ys)

module _ {A : Type 0} where
  pub sub_all : (xs : List A) → Sub xs xs
  sub_all [] = done
  sub_all (x ∷ xs) = keep (sub_all xs)

  pub sub_none : (ys : List A) → Sub [] ys
  sub_none [] = done
  sub_none (y ∷ ys) = skip (sub_none ys)

  pub sub_append : {xs ys us vs : List A} → Sub xs ys → Sub us vs → Sub (xs ++ us) (ys ++ vs)
  sub_append done t = t
  sub_append (keep s) t = keep (sub_append s t)
  sub_append (skip s) t = skip (sub_append s t)

  pub filter_sub : (p : A → Bool) (xs : List A) → Sub (filter p xs) xs
  filter_sub p [] = done
  filter_sub p (x ∷ xs) = go (p x) (filter_sub p xs)
    where
      go : (b : Bool) → Sub (filter p xs) xs → Sub (cond b (x ∷ filter p xs) (filter p xs)) (x ∷ xs)
      go true s = keep s
      go false s = skip s

  pub all_sub : (p : A → Bool) {xs ys : List A} → Sub xs ys → list_all p ys ≡ true → list_all p xs ≡ true
  all_sub p done h = refl
  all_sub p (keep {x} {xs} {ys} s) h = let t = and_split (p x) (list_all p ys) h in and_both t.0 (all_sub p s t.1)
  all_sub p (skip {x} {xs} {ys} s) h = all_sub p s (and_split (p x) (list_all p ys) h).1

module _ {A B : Type 0} where
  pub map_sub : (f : A → B) {xs ys : List A} → Sub xs ys → Sub (map f xs) (map f ys)
  map_sub f done = done
  map_sub f (keep s) = keep (map_sub f s)
  map_sub f (skip s) = skip (map_sub f s)

  pub flat_sub : (f : A → List B) {xs ys : List A} → Sub xs ys → Sub (flat_map f xs) (flat_map f ys)
  flat_sub f done = done
  flat_sub f (keep {x} s) = sub_append (sub_all (f x)) (flat_sub f s)
  flat_sub f (skip {x} s) = sub_append (sub_none (f x)) (flat_sub f s)

pub elem_sub : (x : ℕ) {xs ys : List ℕ} → Sub xs ys → elemb x ys ≡ false → elemb x xs ≡ false
elem_sub x done h = refl
elem_sub x (keep {x = y} {xs} {ys} s) h =
    let t = or-false (eqb y x) (elemb x ys) h in
    ap (λ (b : Bool). b || elemb x xs) t.0 ∙ elem_sub x s t.1
elem_sub x (skip {x = y} {xs} {ys} s) h = elem_sub x s (or-false (eqb y x) (elemb x ys) h).1

pub distinct_sub : {xs ys : List ℕ} → Sub xs ys → distinctb ys ≡ true → distinctb xs ≡ true
distinct_sub done h = refl
distinct_sub (keep {x} {xs} {ys} s) h =
    let t = and_split (not (elemb x ys)) (distinctb ys) h in
    and_both (ap not (elem_sub x s (not-true (elemb x ys) t.0))) (distinct_sub s t.1)
distinct_sub (skip {x} {xs} {ys} s) h = distinct_sub s (and_split (not (elemb x ys)) (distinctb ys) h).1

-- x at the end of a list that has not got it
pub eqb_sym : (x y : ℕ) → eqb y x ≡ false → eqb x y ≡ false
eqb_sym x y h = ne_eqb x y (λ e. eqb-false y x h (sym e))

pub elem_snoc : (x y : ℕ) (xs : List ℕ) → elemb y xs ≡ false → eqb x y ≡ false → elemb y (xs ++ (x ∷ [])) ≡ false
elem_snoc x y xs h e = elem_append y xs (x ∷ []) ∙ (λ i. h i || (e i || false))

pub distinct_snoc : (xs : List ℕ) (x : ℕ) → distinctb xs ≡ true → elemb x xs ≡ false → distinctb (xs ++ (x ∷ [])) ≡ true
distinct_snoc [] x h n = refl
distinct_snoc (y ∷ xs) x h n =
    let t = and_split (not (elemb y xs)) (distinctb xs) h in
    let u = or-false (eqb y x) (elemb x xs) n in
    and_both (ap not (elem_snoc x y xs (not-true (elemb y xs) t.0) (eqb_sym x y u.0))) (distinct_snoc xs x t.1 u.1)

pub push_new_distinct : (xs : List ℕ) (x : ℕ) → distinctb xs ≡ true → distinctb (push_new xs x) ≡ true
push_new_distinct xs x h = go (elemb x xs) refl
  where
    go : (b : Bool) → elemb x xs ≡ b → distinctb (cond b xs (xs ++ (x ∷ []))) ≡ true
    go true e = h
    go false e = distinct_snoc xs x h e
