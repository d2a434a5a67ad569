-- Lists whose elements carry a number, their key: the elements of one key, a change of these alone, and the list without them.
-- What the others lose or keep is said for one key at a time, so that no proof speaks of the places in a list.
use Rattle.std.specs.Prelude.{ℕ, Bool, cond, not, ◌≡◌}
use Rattle.std.proofs.Math.Bool.{true, false}
use mathlib.Core.List.Memᴰ
use mathlib.Core.List.{List, [], ◌∷◌, ◌++◌, map, Memᴰ}
use Rattle.std.proofs.Math.Path.{refl, ap}
use Rattle.std.proofs.Common.{sym, ◌∙◌}
use Rattle.std.proofs.Math.Dec.{eqb}
use borrow.Author.Tests.{eqb-true, eqb-false, eq-eqb, ne_eqb}
use Rattle.std.specs.List.{filter}

-- a number is i, or it is not
pub same_or_other {ℓ} : {P : Type ℓ} (i j : ℕ) → (i ≡ j → P) → ((i ≡ j → ⊥) → P) → P
same_or_other {P = P} i j same other = go (eqb i j) refl
  where
    go : (t : Bool) → eqb i j ≡ t → P
    go true e = same (eqb-true i j e)
    go false e = other (eqb-false i j e)

module _ {A : Type 0} (key : A → ℕ) where
  -- the elements of xs whose key is i
  unfoldable pub pick : ℕ → List A → List A
  pick i xs = filter (λ x. eqb (key x) i) xs

  -- xs with f x for each element x whose key is i
  unfoldable pub change : ℕ → (A → A) → List A → List A
  change i f xs = map (λ x. cond (eqb (key x) i) (f x) x) xs

  -- xs without the elements whose key is i
  unfoldable pub without : ℕ → List A → List A
  without i xs = filter (λ x. not (eqb (key x) i)) xs

  pub pick_append : (i : ℕ) (xs ys : List A) → pick i (xs ++ ys) ≡ pick i xs ++ pick i ys
  unfolding pick
  pick_append i [] ys = refl
  pick_append i (x ∷ xs) ys = go (eqb (key x) i) refl (pick_append i xs ys)
    where
      go : (t : Bool) → eqb (key x) i ≡ t → pick i (xs ++ ys) ≡ pick i xs ++ pick i ys → pick i (x ∷ xs ++ ys) ≡ pick i (x ∷ xs) ++ pick i ys
      go true e ih = simp (e, ih)
      go false e ih = simp (e, ih)

  pub pick_hit : (i : ℕ) (x : A) (xs : List A) → key x ≡ i → pick i (x ∷ xs) ≡ x ∷ pick i xs
  unfolding pick
  pick_hit i x xs e = rw (eq-eqb (key x) i e)

  pub pick_miss : (i : ℕ) (x : A) (xs : List A) → (key x ≡ i → ⊥) → pick i (x ∷ xs) ≡ pick i xs
  unfolding pick
  pick_miss i x xs n = rw (ne_eqb (key x) i n)

  pub pick_one : (i : ℕ) (x : A) → key x ≡ i → pick i (x ∷ []) ≡ x ∷ []
  unfolding pick
  pick_one i x e = rw (eq-eqb (key x) i e)

  pub pick_none : (i : ℕ) (x : A) → (key x ≡ i → ⊥) → pick i (x ∷ []) ≡ []
  unfolding pick
  pick_none i x n = rw (ne_eqb (key x) i n)

  pub pick_without_same : (i : ℕ) (xs : List A) → pick i (without i xs) ≡ []
  unfolding pick without
  pick_without_same i [] = refl
  pick_without_same i (x ∷ xs) = go (eqb (key x) i) refl (pick_without_same i xs)
    where
      go : (t : Bool) → eqb (key x) i ≡ t → pick i (without i xs) ≡ [] → pick i (without i (x ∷ xs)) ≡ []
      go true e ih = simp (e, ih)
      go false e ih = simp (e, ih)

  pub pick_without_other : (i j : ℕ) (xs : List A) → (i ≡ j → ⊥) → pick j (without i xs) ≡ pick j xs
  unfolding pick without
  pick_without_other i j [] n = refl
  pick_without_other i j (x ∷ xs) n = go (eqb (key x) i) refl (pick_without_other i j xs n)
    where
      go : (t : Bool) → eqb (key x) i ≡ t → pick j (without i xs) ≡ pick j xs → pick j (without i (x ∷ xs)) ≡ pick j (x ∷ xs)
      go true e ih = simp (e, ih, ne_eqb (key x) j (λ k. n (sym (eqb-true (key x) i e) ∙ k)))
      go false e ih = simp (e, ih)

  -- what is picked is in the list, and what is in the list is picked by its key
  pub mem_picked : (i : ℕ) (xs : List A) {y : A} → Memᴰ y (pick i xs) → Memᴰ y xs
  unfolding pick
  mem_picked i [] m = m
  mem_picked i (x ∷ xs) {y} m = go (eqb (key x) i) m (λ h. mem_picked i xs h)
    where
      go : (t : Bool) → Memᴰ y (cond t (x ∷ pick i xs) (pick i xs)) → (Memᴰ y (pick i xs) → Memᴰ y xs) → Memᴰ y (x ∷ xs)
      go true (Memᴰ.head e) ih = Memᴰ.head e
      go true (Memᴰ.tail h) ih = Memᴰ.tail (ih h)
      go false h ih = Memᴰ.tail (ih h)

  pub mem_pick : {y : A} {xs : List A} → Memᴰ y xs → Memᴰ y (pick (key y) xs)
  unfolding pick
  mem_pick {y} (Memᴰ.head {x = x} {xs = xs} e) = rw (eq-eqb (key x) (key y) (ap key (sym e))) (Memᴰ.head e)
  mem_pick {y} (Memᴰ.tail {x = x} {xs = xs} m) = go (eqb (key x) (key y)) (mem_pick m)
    where
      go : (t : Bool) → Memᴰ y (pick (key y) xs) → Memᴰ y (cond t (x ∷ pick (key y) xs) (pick (key y) xs))
      go true h = Memᴰ.tail h
      go false h = h

  -- what is picked has the key
  pub mem_picked_key : (i : ℕ) (xs : List A) {y : A} → Memᴰ y (pick i xs) → key y ≡ i
  unfolding pick
  mem_picked_key i [] m = absurd (Memᴰ.not-nil m)
  mem_picked_key i (x ∷ xs) {y} m = go (eqb (key x) i) refl m (λ h. mem_picked_key i xs h)
    where
      go : (t : Bool) → eqb (key x) i ≡ t → Memᴰ y (cond t (x ∷ pick i xs) (pick i xs)) → (Memᴰ y (pick i xs) → key y ≡ i) → key y ≡ i
      go true q (Memᴰ.head e) ih = ap key e ∙ eqb-true (key x) i q
      go true q (Memᴰ.tail h) ih = ih h
      go false q h ih = ih h

  pub picked_key : (i : ℕ) (xs : List A) {y : A} {ys : List A} → pick i xs ≡ y ∷ ys → key y ≡ i
  picked_key i xs e = mem_picked_key i xs (rw e (Memᴰ.head refl))

  module _ (f : A → A) (keeps : (x : A) → key (f x) ≡ key x) where
    pub pick_change_same : (i : ℕ) (xs : List A) → pick i (change i f xs) ≡ map f (pick i xs)
    unfolding pick change
    pick_change_same i [] = refl
    pick_change_same i (x ∷ xs) = go (eqb (key x) i) refl (pick_change_same i xs)
      where
        go : (t : Bool) → eqb (key x) i ≡ t → pick i (change i f xs) ≡ map f (pick i xs) → pick i (change i f (x ∷ xs)) ≡ map f (pick i (x ∷ xs))
        go true e ih = simp (e, keeps x, ih)
        go false e ih = simp (e, ih)

    pub pick_change_other : (i j : ℕ) (xs : List A) → (i ≡ j → ⊥) → pick j (change i f xs) ≡ pick j xs
    unfolding pick change
    pick_change_other i j [] n = refl
    pick_change_other i j (x ∷ xs) n = go (eqb (key x) i) refl (pick_change_other i j xs n)
      where
        go : (t : Bool) → eqb (key x) i ≡ t → pick j (change i f xs) ≡ pick j xs → pick j (change i f (x ∷ xs)) ≡ pick j (x ∷ xs)
        go true e ih = simp (e, keeps x, ih, ne_eqb (key x) j (λ k. n (sym (eqb-true (key x) i e) ∙ k)))
        go false e ih = simp (e, ih)

  -- what f forgets, a change by f leaves
  pub map_change : {B : Type 0} (g : A → B) (f : A → A) → ((x : A) → g (f x) ≡ g x) → (i : ℕ) (xs : List A) → map g (change i f xs) ≡ map g xs
  unfolding change
  map_change g f keeps i [] = refl
  map_change g f keeps i (x ∷ xs) = go (eqb (key x) i) (map_change g f keeps i xs)
    where
      go : (t : Bool) → map g (change i f xs) ≡ map g xs → (g (cond t (f x) x) ∷ map g (change i f xs)) ≡ g x ∷ map g xs
      go true ih = simp (keeps x, ih)
      go false ih = simp ih

-- a map that keeps the keys keeps what is picked
pub pick_map : {A B : Type 0} (key_a : A → ℕ) (key_b : B → ℕ) (f : A → B) → ((x : A) → key_b (f x) ≡ key_a x) → (i : ℕ) (xs : List A) → pick key_b i (map f xs) ≡ map f (pick key_a i xs)
unfolding pick
pick_map key_a key_b f keeps i [] = refl
pick_map key_a key_b f keeps i (x ∷ xs) = go (eqb (key_a x) i) refl (pick_map key_a key_b f keeps i xs)
  where
    go : (t : Bool) → eqb (key_a x) i ≡ t → pick key_b i (map f xs) ≡ map f (pick key_a i xs) → pick key_b i (map f (x ∷ xs)) ≡ map f (pick key_a i (x ∷ xs))
    go true e ih = simp (e, keeps x, ih)
    go false e ih = simp (e, keeps x, ih)
