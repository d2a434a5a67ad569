-- Laws of lists that keeping a book sound asks: elements, sublists, rising lists, and how long a list without repeats can be.
use Rattle.std.specs.Prelude.{ℕ, suc, ◌≤◌, Bool, cond, not, ◌||◌, ◌≡◌, eqb, ltb, length}
use Rattle.std.proofs.Math.Bool.{true, false}
use Rattle.std.proofs.lemmas.Bool.{false≢true, eqb-false, not-true}
use mathlib.Core.List.{List, [], ◌∷◌, ◌++◌, map}
use Rattle.std.proofs.Math.Path.{refl}
use Rattle.std.proofs.Common.{sym, ap, ◌∙◌, arith, eqb-true, ne_eqb, ltb-false, lt-ltb, ltb-true}
use Rattle.base_lists.specs.Laws.{and_split, and_both, or-false, rising_rest}
use Rattle.base_lists.specs.Lists.{elemb, distinctb, insert_up, risingb}
use Rattle.std.specs.List.{list_all, flat_map}
use Rattle.base_lists.specs.Sub.{Sub, sub_all, sub_append, filter_sub, all_sub, elem_sub, distinct_sub, eqb_sym}
use Rattle.rules.specs.Keyed.{change, without}
use Rattle.rules.specs.Steps.Notes.{unreplayed}

pub or_right : (a b : Bool) → b ≡ true → (a || b) ≡ true
or_right true b h = refl
or_right false b h = h

-- ---- all
module _ {A : Type 0} (p : A → Bool) where
  pub all_change : (key : A → ℕ) (i : ℕ) (f : A → A) → ((x : A) → p x ≡ true → p (f x) ≡ true) → (xs : List A) → list_all p xs ≡ true → list_all p (change key i f xs) ≡ true
  unfolding change
  all_change key i f keeps [] h = refl
  all_change key i f keeps (x ∷ xs) h = let t = and_split (p x) (list_all p xs) h in and_both (go (eqb (key x) i) t.0) (all_change key i f keeps xs t.1)
    where
      go : (b : Bool) → p x ≡ true → p (cond b (f x) x) ≡ true
      go true k = keeps x k
      go false k = k

  pub all_weaken : (q : A → Bool) → ((x : A) → p x ≡ true → q x ≡ true) → (xs : List A) → list_all p xs ≡ true → list_all q xs ≡ true
  all_weaken q w [] h = refl
  all_weaken q w (x ∷ xs) h = let t = and_split (p x) (list_all p xs) h in and_both (w x t.0) (all_weaken q w xs t.1)

-- ---- elements
-- an element that differs from what a filter drops is kept
pub elem_without : {A : Type 0} (key : A → ℕ) (i j : ℕ) (xs : List A) → eqb j i ≡ false → elemb j (map key xs) ≡ true → elemb j (map key (without key i xs)) ≡ true
unfolding without
elem_without key i j [] n h = h
elem_without {A} key i j (x ∷ xs) n h = go (eqb (key x) i) refl (eqb (key x) j) refl h (λ k. elem_without key i j xs n k)
  where
    go : (b : Bool) → eqb (key x) i ≡ b → (c : Bool) → eqb (key x) j ≡ c → (c || elemb j (map key xs)) ≡ true
        → (elemb j (map key xs) ≡ true → elemb j (map key (without key i xs)) ≡ true)
        → elemb j (map key (cond (not b) (x ∷ without key i xs) (without key i xs))) ≡ true
    go true q true r h ih = absurd (eqb-false j i n (sym (eqb-true (key x) j r) ∙ eqb-true (key x) i q))
    go true q false r h ih = ih h
    go false q true r h ih = ap (λ (z : Bool). z || elemb j (map key (without key i xs))) r
    go false q false r h ih = or_right (eqb (key x) j) (elemb j (map key (without key i xs))) (ih h)

-- all that are not i, where all were elements, are elements still
pub all_elem_without : {A : Type 0} (key : A → ℕ) (i : ℕ) (xs : List A) (js : List ℕ) → list_all (λ j. elemb j (map key xs)) js ≡ true
    → list_all (λ j. elemb j (map key (without key i xs))) (unreplayed i js) ≡ true
unfolding unreplayed
all_elem_without key i xs [] h = refl
all_elem_without key i xs (j ∷ js) h = let t = and_split (elemb j (map key xs)) (list_all (λ k. elemb k (map key xs)) js) h in
    go (eqb j i) refl t.0 (all_elem_without key i xs js t.1)
  where
    go : (b : Bool) → eqb j i ≡ b → elemb j (map key xs) ≡ true → list_all (λ k. elemb k (map key (without key i xs))) (unreplayed i js) ≡ true
        → list_all (λ k. elemb k (map key (without key i xs))) (cond (not b) (j ∷ unreplayed i js) (unreplayed i js)) ≡ true
    go true q k ih = ih
    go false q k ih = and_both (elem_without key i j xs q k) ih

-- ---- sublists
pub change_flat_sub : {A B : Type 0} (f : A → List B) (key : A → ℕ) (i : ℕ) (g : A → A) → ((x : A) → Sub (f (g x)) (f x)) → (xs : List A) → Sub (flat_map f (change key i g xs)) (flat_map f xs)
unfolding change
change_flat_sub f key i g less [] = Sub.done
change_flat_sub {A} {B} f key i g less (x ∷ xs) = go (eqb (key x) i) (change_flat_sub f key i g less xs)
  where
    go : (b : Bool) → Sub (flat_map f (change key i g xs)) (flat_map f xs) → Sub (f (cond b (g x) x) ++ flat_map f (change key i g xs)) (f x ++ flat_map f xs)
    go true h = sub_append (less x) h
    go false h = sub_append (sub_all (f x)) h

-- a sublist of ys with one n more
pub data Adds (n : ℕ) : List ℕ → List ℕ → Type 0 where
  put : {xs ys : List ℕ} → Sub xs ys → Adds n (n ∷ xs) ys
  same : {x : ℕ} {xs ys : List ℕ} → Adds n xs ys → Adds n (x ∷ xs) (x ∷ ys)

pub adds_after : {n : ℕ} (zs : List ℕ) {xs ys : List ℕ} → Adds n xs ys → Adds n (zs ++ xs) (zs ++ ys)
adds_after [] a = a
adds_after (z ∷ zs) a = same (adds_after zs a)

elem_adds : {n : ℕ} (x : ℕ) {xs ys : List ℕ} → Adds n xs ys → eqb n x ≡ false → elemb x ys ≡ false → elemb x xs ≡ false
elem_adds {n} x (put {xs} {ys} s) k h = ap (λ (b : Bool). b || elemb x xs) k ∙ elem_sub x s h
elem_adds {n} x (same {x = y} {xs} {ys} a) k h =
    let t = or-false (eqb y x) (elemb x ys) h in
    ap (λ (b : Bool). b || elemb x xs) t.0 ∙ elem_adds x a k t.1

pub distinct_adds : {n : ℕ} {xs ys : List ℕ} → Adds n xs ys → distinctb ys ≡ true → elemb n ys ≡ false → distinctb xs ≡ true
distinct_adds {n} (put {xs} {ys} s) h k = and_both (ap not (elem_sub n s k)) (distinct_sub s h)
distinct_adds {n} (same {x} {xs} {ys} a) h k =
    let t = and_split (not (elemb x ys)) (distinctb ys) h in
    let u = or-false (eqb x n) (elemb n ys) k in
    and_both (ap not (elem_adds x a (eqb_sym n x u.0) (not-true (elemb x ys) t.0))) (distinct_adds a t.1 u.1)

pub all_adds : {n : ℕ} (p : ℕ → Bool) {xs ys : List ℕ} → Adds n xs ys → p n ≡ true → list_all p ys ≡ true → list_all p xs ≡ true
all_adds p (put s) k h = and_both k (all_sub p s h)
all_adds p (same {x} {xs} {ys} a) k h = let t = and_split (p x) (list_all p ys) h in and_both t.0 (all_adds p a k t.1)

-- what is below n has no n in it
pub below_elem : (n : ℕ) (xs : List ℕ) → list_all (λ t. ltb t n) xs ≡ true → elemb n xs ≡ false
below_elem n [] h = refl
below_elem n (x ∷ xs) h =
    let t = and_split (ltb x n) (list_all (λ t. ltb t n) xs) h in
    ap (λ (b : Bool). b || elemb n xs) (ne_eqb x n (λ e. let l = ltb-true x n t.0 in omega arith)) ∙ below_elem n xs t.1

-- ---- rising lists
rising_weaken : (x y : ℕ) (ys : List ℕ) → ltb x y ≡ true → risingb (y ∷ ys) ≡ true → risingb (x ∷ ys) ≡ true
rising_weaken x y [] h k = refl
rising_weaken x y (z ∷ ys) h k =
    let t = and_split (ltb y z) (risingb (z ∷ ys)) k in
    and_both (lt-ltb x z (let a = ltb-true x y h in let b = ltb-true y z t.0 in omega arith)) t.1

rising_from_sub : (x : ℕ) {xs ys : List ℕ} → Sub xs ys → risingb (x ∷ ys) ≡ true → risingb (x ∷ xs) ≡ true
rising_from_sub x Sub.done h = refl
rising_from_sub x (Sub.keep {x = y} {xs} {ys} s) h = let t = and_split (ltb x y) (risingb (y ∷ ys)) h in and_both t.0 (rising_from_sub y s t.1)
rising_from_sub x (Sub.skip {x = y} {xs} {ys} s) h = let t = and_split (ltb x y) (risingb (y ∷ ys)) h in rising_from_sub x s (rising_weaken x y ys t.0 t.1)

pub rising_sub : {xs ys : List ℕ} → Sub xs ys → risingb ys ≡ true → risingb xs ≡ true
rising_sub Sub.done h = refl
rising_sub (Sub.keep {x} s) h = rising_from_sub x s h
rising_sub (Sub.skip {x} {xs} {ys} s) h = rising_sub s (rising_rest x ys h)

above : (x z : ℕ) → ltb x z ≡ false → eqb z x ≡ false → ltb z x ≡ true
above x z h k = lt-ltb z x (let a = ltb-false x z h in let b : (z ≡ x → ⊥) = eqb-false z x k in omega arith)

rising_insert_from : (y x : ℕ) (ys : List ℕ) → ltb y x ≡ true → risingb (y ∷ ys) ≡ true → elemb x ys ≡ false → risingb (y ∷ insert_up x ys) ≡ true
rising_insert_from y x [] l h n = and_both l refl
rising_insert_from y x (z ∷ ys) l h n = go (ltb x z) refl (λ l' h' n'. rising_insert_from z x ys l' h' n')
  where
    t : (ltb y z ≡ true) × (risingb (z ∷ ys) ≡ true)
    t = and_split (ltb y z) (risingb (z ∷ ys)) h

    go : (b : Bool) → ltb x z ≡ b → (ltb z x ≡ true → risingb (z ∷ ys) ≡ true → elemb x ys ≡ false → risingb (z ∷ insert_up x ys) ≡ true)
        → risingb (y ∷ cond b (x ∷ z ∷ ys) (z ∷ insert_up x ys)) ≡ true
    go true q ih = and_both l (and_both q t.1)
    go false q ih = let u = or-false (eqb z x) (elemb x ys) n in and_both t.0 (ih (above x z q u.0) t.1 u.1)

pub rising_insert : (x : ℕ) (xs : List ℕ) → risingb xs ≡ true → elemb x xs ≡ false → risingb (insert_up x xs) ≡ true
rising_insert x [] h n = refl
rising_insert x (z ∷ xs) h n = go (ltb x z) refl
  where
    go : (b : Bool) → ltb x z ≡ b → risingb (cond b (x ∷ z ∷ xs) (z ∷ insert_up x xs)) ≡ true
    go true q = and_both q h
    go false q = let u = or-false (eqb z x) (elemb x xs) n in rising_insert_from z x xs (above x z q u.0) h u.1

pub all_insert : (p : ℕ → Bool) (x : ℕ) (xs : List ℕ) → p x ≡ true → list_all p xs ≡ true → list_all p (insert_up x xs) ≡ true
all_insert p x [] k h = and_both k refl
all_insert p x (y ∷ xs) k h = go (ltb x y) (all_insert p x xs k t.1)
  where
    t : (p y ≡ true) × (list_all p xs ≡ true)
    t = and_split (p y) (list_all p xs) h

    go : (b : Bool) → list_all p (insert_up x xs) ≡ true → list_all p (cond b (x ∷ y ∷ xs) (y ∷ insert_up x xs)) ≡ true
    go true ih = and_both k h
    go false ih = and_both t.0 ih

-- ---- lengths
pub sub_length : {A : Type 0} {xs ys : List A} → Sub xs ys → length xs ≤ length ys
sub_length Sub.done = omega arith
sub_length (Sub.keep s) = let h = sub_length s in omega arith
sub_length (Sub.skip s) = let h = sub_length s in omega arith

-- one of a list is dropped
dropped : (x : ℕ) (ys : List ℕ) → elemb x ys ≡ true → suc (length (unreplayed x ys)) ≤ length ys
unfolding unreplayed
dropped x [] h = absurd (false≢true h)
dropped x (y ∷ ys) h = go (eqb y x) h (λ k. dropped x ys k)
  where
    go : (b : Bool) → (b || elemb x ys) ≡ true → (elemb x ys ≡ true → suc (length (unreplayed x ys)) ≤ length ys)
        → suc (length (cond (not b) (y ∷ unreplayed x ys) (unreplayed x ys))) ≤ suc (length ys)
    go true k ih = let l = sub_length (filter_sub (λ j. not (eqb j x)) ys) in omega arith
    go false k ih = let l = ih k in omega arith

elem_unreplayed : (x y : ℕ) (ys : List ℕ) → eqb y x ≡ false → elemb y ys ≡ true → elemb y (unreplayed x ys) ≡ true
unfolding unreplayed
elem_unreplayed x y [] n h = h
elem_unreplayed x y (z ∷ ys) n h = go (eqb z x) refl (eqb z y) refl h (λ k. elem_unreplayed x y ys n k)
  where
    go : (b : Bool) → eqb z x ≡ b → (c : Bool) → eqb z y ≡ c → (c || elemb y ys) ≡ true → (elemb y ys ≡ true → elemb y (unreplayed x ys) ≡ true)
        → elemb y (cond (not b) (z ∷ unreplayed x ys) (unreplayed x ys)) ≡ true
    go true q true r h ih = absurd (eqb-false y x n (sym (eqb-true z y r) ∙ eqb-true z x q))
    go true q false r h ih = ih h
    go false q true r h ih = ap (λ (t : Bool). t || elemb y (unreplayed x ys)) r
    go false q false r h ih = or_right (eqb z y) (elemb y (unreplayed x ys)) (ih h)

all_unreplayed : (x : ℕ) (xs ys : List ℕ) → elemb x xs ≡ false → list_all (λ y. elemb y ys) xs ≡ true → list_all (λ y. elemb y (unreplayed x ys)) xs ≡ true
all_unreplayed x [] ys n h = refl
all_unreplayed x (y ∷ xs) ys n h =
    let t = and_split (elemb y ys) (list_all (λ z. elemb z ys) xs) h in
    let u = or-false (eqb y x) (elemb x xs) n in
    and_both (elem_unreplayed x y ys u.0 t.0) (all_unreplayed x xs ys u.1 t.1)

-- a list without repeats is at most as long as one that has all its elements
pub pigeons : (xs ys : List ℕ) → distinctb xs ≡ true → list_all (λ y. elemb y ys) xs ≡ true → length xs ≤ length ys
pigeons [] ys d h = omega arith
pigeons (x ∷ xs) ys d h =
    let t = and_split (elemb x ys) (list_all (λ y. elemb y ys) xs) h in
    let u = and_split (not (elemb x xs)) (distinctb xs) d in
    let k = pigeons xs (unreplayed x ys) u.1 (all_unreplayed x xs ys (not-true (elemb x xs) u.0) t.1) in
    let l = dropped x ys t.0 in
    omega arith
