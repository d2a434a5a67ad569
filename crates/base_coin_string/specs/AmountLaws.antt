-- The amount atom is two's complement, and the shortest; what the code's steps use of it.
use Rattle.std.specs.Prelude.{◌≡◌, refl, Bool, true, false, cond, List, ℕ, zero, suc, ◌+◌, ◌-◌, ◌*◌, ◌/◌, ◌^◌, ◌≤◌, ◌<◌, ltb, length, take, drop}
use Rattle.std.proofs.Common.{ap, ◌∙◌, subst, add-zero, zero-add, le_refl, arith, ltb-true, ltb-false, pow_mono, pow-add}
use Rattle.std.proofs.Math.Nat.{pow-le-pow_right}
use Rattle.base_lists.specs.Laws.{array_part}
use Rattle.base_coin_string.specs.Amount.{bound, fewest, atom_length, big_endian, atom_of}

-- ---- the length: the fewest bytes that hold n
bound_mono : (k m : ℕ) → k ≤ m → bound k ≤ bound m
bound_mono zero zero h = le_refl _
bound_mono zero (suc m) h = pow-le-pow_right {n = 2} (omega arith) {i = 0} {j = 8 * m + 7} (omega arith)
bound_mono (suc k) zero h = absurd (omega arith)
bound_mono (suc k) (suc m) h = pow-le-pow_right {n = 2} (omega arith) {i = 8 * k + 7} {j = 8 * m + 7} (omega arith)

-- what k bytes hold and m do not is of more bytes
bound_lt : (n k m : ℕ) → n < bound m → bound k ≤ n → k < m
bound_lt n k m h l = go (ltb k m) refl
  where
    go : (t : Bool) → ltb k m ≡ t → k < m
    go true e = ltb-true k m e
    go false e = absurd (omega (arith, bound_mono m k (ltb-false k m e)))

fewest_least : (j k m n : ℕ) → n < bound m → k ≤ m → fewest j k n ≤ m
fewest_least zero k m n h l = l
fewest_least (suc j) k m n h l = go (ltb n (bound k)) refl (fewest_least j (suc k) m n h)
  where
    go : (t : Bool) → ltb n (bound k) ≡ t → (suc k ≤ m → fewest j (suc k) n ≤ m) → cond t k (fewest j (suc k) n) ≤ m
    go true e ih = l
    go false e ih = ih (let q = bound_lt n k m h (ltb-false n (bound k) e) in omega arith)

add_suc' : (k j : ℕ) → k + suc j ≡ suc k + j
add_suc' k j = omega arith

fewest_fits : (j k n : ℕ) → n < bound (k + j) → n < bound (fewest j k n)
fewest_fits zero k n h = rw add-zero at h
fewest_fits (suc j) k n h = go (ltb n (bound k)) refl (fewest_fits j (suc k) n)
  where
    go : (t : Bool) → ltb n (bound k) ≡ t → (n < bound (suc k + j) → n < bound (fewest j (suc k) n)) → n < bound (cond t k (fewest j (suc k) n))
    go true e ih = ltb-true n (bound k) e
    go false e ih = ih (subst (λ (i : ℕ). n < bound i) (add_suc' k j) h)

pub atom_least : (n m : ℕ) → n < bound m → atom_length n ≤ m
atom_least n m h = fewest_least 9 0 m n h (omega arith)

pub atom_fits : (n : ℕ) → n < 2 ^ 64 → n < bound (atom_length n)
atom_fits n h = fewest_fits 9 0 n (omega arith)

length_is : (n k : ℕ) → bound k ≤ n → n < bound (suc k) → n < 2 ^ 64 → suc k ≡ atom_length n
length_is n k h l m = omega (arith, bound_lt n k (atom_length n) (atom_fits n m) h, atom_least n (suc k) l)

bound_le_pow : (k i : ℕ) → 8 * k ≤ i + 1 → bound k ≤ 2 ^ i
bound_le_pow zero i h = pow_mono {i = 0} {j = i} (omega arith)
bound_le_pow (suc k) i h = pow_mono {i = 8 * k + 7} {j = i} (omega arith)

-- by the place of the first bit that is set
pub length_by_log : (n i : ℕ) → 2 ^ i ≤ n → n < 2 * 2 ^ i → n < 2 ^ 64 → (i + 1) / 8 + 1 ≡ atom_length n
length_by_log n i h l m =
    let k = (i + 1) / 8 in
    let q : 2 ^ (i + 1) ≤ 2 ^ (8 * k + 7) = pow_mono {i = i + 1} {j = 8 * k + 7} (omega arith) in
    omega (arith, length_is n k (omega (arith, bound_le_pow k i (omega arith))) (omega (arith, pow-add 2 i 1)) m)

-- ---- the bytes
pub big_length : (k n : ℕ) → length (big_endian k n) ≡ k
big_length zero n = refl
big_length (suc k) n = ap suc (big_length k n)

suc_add : (j k : ℕ) → suc j + k ≡ suc (j + k)
suc_add j k = omega arith

-- the last k of k + j bytes
pub big_drop : (j k n : ℕ) → drop j (big_endian (j + k) n) ≡ big_endian k n
big_drop zero k n = ap (λ (m : ℕ). big_endian m n) (zero-add k)
big_drop (suc j) k n = ap (λ (m : ℕ). drop (suc j) (big_endian m n)) (suc_add j k) ∙ big_drop j k n

fewest_le : (j k n : ℕ) → fewest j k n ≤ k + j
fewest_le zero k n = omega arith
fewest_le (suc j) k n = go (ltb n (bound k)) (fewest_le j (suc k) n)
  where
    go : (t : Bool) → fewest j (suc k) n ≤ suc k + j → cond t k (fewest j (suc k) n) ≤ k + suc j
    go true h = omega arith
    go false h = omega arith

pub length_le : (n : ℕ) → atom_length n ≤ 9
length_le n = fewest_le 9 0 n

pub atom_le : (n : ℕ) → length (atom_of n) ≤ 9
atom_le n = omega (arith, big_length (atom_length n) n, length_le n)

-- the last atom_length n of nine bytes
pub atom_of_nine : (n : ℕ) → drop (9 - atom_length n) (big_endian 9 n) ≡ atom_of n
atom_of_nine n =
    let e : 9 ≡ 9 - atom_length n + atom_length n = omega (arith, length_le n) in
    ap (λ (k : ℕ). drop (9 - atom_length n) (big_endian k n)) e ∙ big_drop (9 - atom_length n) (atom_length n) n

-- the part of nine bytes that the code takes
pub nine_part : (n z : ℕ) (b : List ℕ) → b ≡ big_endian 9 n → z ≡ 9 - atom_length n → take (9 - z) (drop z b) ≡ atom_of n
nine_part n z b e f = array_part 9 b z (ap length e ∙ big_length 9 n) ∙ ap (λ (l : List ℕ). drop z l) e ∙ ap (λ (k : ℕ). drop k (big_endian 9 n)) f ∙ atom_of_nine n
