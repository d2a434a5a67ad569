-- The order of byte lists is total: equal only what is equal, turned round by a swap, and transitive.
use Rattle.std.specs.Prelude.{◌≡◌, refl, Bool, true, false, cond, List, [], ◌∷◌, ℕ, ◌<◌, ◌≤◌, eqb, ltb}
use Rattle.std.proofs.Common.{ap, ◌∙◌, arith, lt-ltb, le-ltb, ltb-true, ltb-false, eq-eqb, ne_eqb}
use Rattle.std.specs.Cmp.Lexicographic.{slice_cmp}
use Rattle.std.specs.Ordering.{nat_cmp, ordering_then}
use Rattle.std.specs.declared.cmp.Ordering.{Ordering}
use Rattle.std.specs.declared.cmp.Ordering.TheVariants.{Less, Equal, Greater}
use Rattle.base_coin_string.specs.Order.{order_of}

-- ---- it is std's order of slices
pub order_is : (xs ys : List ℕ) → slice_cmp nat_cmp xs ys ≡ order_of xs ys
order_is [] [] = refl
order_is [] (y ∷ ys) = refl
order_is (x ∷ xs) [] = refl
order_is (x ∷ xs) (y ∷ ys) = go (ltb x y) refl (ltb y x) refl (order_is xs ys)
  where
    go : (a : Bool) → ltb x y ≡ a → (b : Bool) → ltb y x ≡ b → slice_cmp nat_cmp xs ys ≡ order_of xs ys
        → ordering_then (cond a Less (cond (eqb x y) Equal Greater)) (slice_cmp nat_cmp xs ys) ≡ cond a Less (cond b Greater (order_of xs ys))
    go true p b q h = refl
    go false p true q h =
        let n : eqb x y ≡ false = ne_eqb x y (λ e. omega (arith, ltb-true y x q)) in
        ap (λ (t : Bool). ordering_then (cond t Equal Greater) (slice_cmp nat_cmp xs ys)) n
    go false p false q h =
        let e : eqb x y ≡ true = eq-eqb x y (omega (arith, ltb-false x y p, ltb-false y x q)) in
        ap (λ (t : Bool). ordering_then (cond t Equal Greater) (slice_cmp nat_cmp xs ys)) e ∙ h

-- ---- the order is total
pub order_refl : (xs : List ℕ) → order_of xs xs ≡ Equal
order_refl [] = refl
order_refl (x ∷ xs) = ap (λ (b : Bool). cond b Less (cond b Greater (order_of xs xs))) (le-ltb x x (omega arith)) ∙ order_refl xs

pub order_equal : (xs ys : List ℕ) → order_of xs ys ≡ Equal → xs ≡ ys
order_equal [] [] h = refl
order_equal [] (y ∷ ys) h = absurd (let z : ◌≡◌ {A = ℕ} 0 1 = cc in omega arith)
order_equal (x ∷ xs) [] h = absurd (let z : ◌≡◌ {A = ℕ} 0 1 = cc in omega arith)
order_equal (x ∷ xs) (y ∷ ys) h = go (ltb x y) refl (ltb y x) refl h (order_equal xs ys)
  where
    go : (a : Bool) → ltb x y ≡ a → (b : Bool) → ltb y x ≡ b → cond a Less (cond b Greater (order_of xs ys)) ≡ Equal → (order_of xs ys ≡ Equal → xs ≡ ys) → x ∷ xs ≡ y ∷ ys
    go true p b q h ih = absurd (let z : ◌≡◌ {A = ℕ} 0 1 = cc in omega arith)
    go false p true q h ih = absurd (let z : ◌≡◌ {A = ℕ} 0 1 = cc in omega arith)
    go false p false q h ih =
        let e : x ≡ y = omega (arith, ltb-false x y p, ltb-false y x q) in
        λ i. e i ∷ ih h i

-- a swap turns it round
abbrev pub turned : Ordering → Ordering
turned Less = Greater
turned Equal = Equal
turned Greater = Less

pub order_turned : (xs ys : List ℕ) → order_of ys xs ≡ turned (order_of xs ys)
order_turned [] [] = refl
order_turned [] (y ∷ ys) = refl
order_turned (x ∷ xs) [] = refl
order_turned (x ∷ xs) (y ∷ ys) = go (ltb x y) refl (ltb y x) refl (order_turned xs ys)
  where
    go : (a : Bool) → ltb x y ≡ a → (b : Bool) → ltb y x ≡ b → order_of ys xs ≡ turned (order_of xs ys)
        → cond b Less (cond a Greater (order_of ys xs)) ≡ turned (cond a Less (cond b Greater (order_of xs ys)))
    go true p true q ih = absurd (omega (arith, ltb-true x y p, ltb-true y x q))
    go true p false q ih = refl
    go false p true q ih = refl
    go false p false q ih = ih

pub order_trans : (xs ys zs : List ℕ) → order_of xs ys ≡ Less → order_of ys zs ≡ Less → order_of xs zs ≡ Less
order_trans [] ys [] h k = absurd (bad ys h k)
  where
    bad : (ys : List ℕ) → order_of [] ys ≡ Less → order_of ys [] ≡ Less → ⊥
    bad [] h k = let z : ◌≡◌ {A = ℕ} 0 1 = cc in omega arith
    bad (y ∷ ys) h k = let z : ◌≡◌ {A = ℕ} 0 1 = cc in omega arith
order_trans [] ys (z ∷ zs) h k = refl
order_trans (x ∷ xs) [] zs h k = absurd (let z : ◌≡◌ {A = ℕ} 0 1 = cc in omega arith)
order_trans (x ∷ xs) (y ∷ ys) [] h k = absurd (let z : ◌≡◌ {A = ℕ} 0 1 = cc in omega arith)
order_trans (x ∷ xs) (y ∷ ys) (z ∷ zs) h k = go (ltb x y) refl (ltb y x) refl (ltb y z) refl (ltb z y) refl h k (order_trans xs ys zs)
  where
    less : x < z → cond (ltb x z) Less (cond (ltb z x) Greater (order_of xs zs)) ≡ Less
    less l = ap (λ (b : Bool). cond b Less (cond (ltb z x) Greater (order_of xs zs))) (lt-ltb x z l)

    go : (a : Bool) → ltb x y ≡ a → (b : Bool) → ltb y x ≡ b → (c : Bool) → ltb y z ≡ c → (d : Bool) → ltb z y ≡ d
        → cond a Less (cond b Greater (order_of xs ys)) ≡ Less → cond c Less (cond d Greater (order_of ys zs)) ≡ Less
        → (order_of xs ys ≡ Less → order_of ys zs ≡ Less → order_of xs zs ≡ Less) → cond (ltb x z) Less (cond (ltb z x) Greater (order_of xs zs)) ≡ Less
    go true p b q true r d s h k ih = less (omega (arith, ltb-true x y p, ltb-true y z r))
    go true p b q false r true s h k ih = absurd (let w : ◌≡◌ {A = ℕ} 0 1 = cc in omega arith)
    go true p b q false r false s h k ih = less (omega (arith, ltb-true x y p, ltb-false y z r, ltb-false z y s))
    go false p true q c r d s h k ih = absurd (let w : ◌≡◌ {A = ℕ} 0 1 = cc in omega arith)
    go false p false q true r d s h k ih = less (omega (arith, ltb-false x y p, ltb-false y x q, ltb-true y z r))
    go false p false q false r true s h k ih = absurd (let w : ◌≡◌ {A = ℕ} 0 1 = cc in omega arith)
    go false p false q false r false s h k ih =
        let e : z ≤ x = omega (arith, ltb-false x y p, ltb-false y x q, ltb-false y z r, ltb-false z y s) in
        let f : x ≤ z = omega (arith, ltb-false x y p, ltb-false y x q, ltb-false y z r, ltb-false z y s) in
        ap (λ (b : Bool). cond b Less (cond (ltb z x) Greater (order_of xs zs))) (le-ltb x z e) ∙ ap (λ (b : Bool). cond b Greater (order_of xs zs)) (le-ltb z x f) ∙ ih h k
