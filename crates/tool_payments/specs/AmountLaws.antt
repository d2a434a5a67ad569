-- Sums are exact: the remainders of `add_sum` change nothing of a book's sums, and `sum_text` is the number in decimal.
use Rattle.std.specs.Prelude.{◌≡◌, refl, Bool, true, cond, List, [], ◌∷◌, ◌++◌, ℕ, zero, suc, ◌+◌, ◌-◌, ◌*◌, ◌/◌, ◌%◌, ◌^◌, ◌≤◌, ◌<◌, eqb, ltb, length, replicate, sum}
use Rattle.std.proofs.Common.{sym, ap, ◌∙◌, append_assoc, append-nil, arith, pow-suc, mod-eq_of_lt, mul_assoc, mul_comm, div-one, mul-pos, div-lt_iff_lt-mul, zero-lt-suc, lt-ltb, le-ltb, ltb-true, ne_eqb}
use Rattle.std.proofs.lemmas.List.Sums.{sum_by-cons}
use Rattle.std.proofs.Math.Nat.{div-div-eq-div-mul, one-le-pow}
use Rattle.std.specs.List.{list_all, fold, flat_map}
use Rattle.base_lists.specs.Laws.{and_split}
use Rattle.book.specs.Sound.{spends_of}
use Rattle.book.specs.declared.SpendBundle.{SpendBundle}
use Rattle.tool_text.specs.Ascii.{ascii}
use Rattle.tool_text.specs.Numbers.{decimal, decimal_in, padded}
use Rattle.tool_payments.specs.declared.Sum.{Sum}
use Rattle.tool_payments.specs.Amount.{value_of, sum_of, add_amount, amounts_of, amount_out}
use Rattle.tool_payments.specs.Text.{sum_text}

-- every one has 64 bits
abbrev pub all64 : List ℕ → Bool
all64 ns = list_all (λ n. ltb n (2 ^ 64)) ns

-- ---- adding
record Small (k : ℕ) (s : Sum) : Type 0 where
  low : s.low < 10 ^ 18
  high : s.high ≤ k

-- where the parts are small, the remainders are the parts
add_number : (h l q r : ℕ) → h < 2 ^ 32 → l < 10 ^ 18 → q < 2 ^ 32 → r < 10 ^ 18 → (h % 2 ^ 32 + q % 2 ^ 32 + (l % 10 ^ 18 + r % 10 ^ 18) / 10 ^ 18) * 10 ^ 18 + (l % 10 ^ 18 + r % 10 ^ 18) % 10 ^ 18 ≡ h * 10 ^ 18 + l + (q * 10 ^ 18 + r)
add_number h l q r hh hl hq hr = rw (mod-eq_of_lt hh, mod-eq_of_lt hl, mod-eq_of_lt hq, mod-eq_of_lt hr) (parts h q (l + r) ∙ regroup)
  where
    parts : (h q x : ℕ) → (h + q + x / 10 ^ 18) * 10 ^ 18 + x % 10 ^ 18 ≡ h * 10 ^ 18 + q * 10 ^ 18 + x
    parts h q x = omega arith

    regroup : h * 10 ^ 18 + q * 10 ^ 18 + (l + r) ≡ h * 10 ^ 18 + l + (q * 10 ^ 18 + r)
    regroup = omega arith

module _ (k n : ℕ) (s : Sum) (h : n < 2 ^ 64) (b : k < 2 ^ 31) (p : Small k s) where
  small_add : Small (k + 19) (add_amount s n)
  small_add = let l = p.low in let g = p.high in record { low = omega arith; high = omega (arith, l, g) }

  value_add : value_of (add_amount s n) ≡ value_of s + n
  value_add =
      let g : s.high < 2 ^ 32 = omega (arith, p.high) in
      let whole : n / 10 ^ 18 * 10 ^ 18 + n % 10 ^ 18 ≡ n = omega arith in
      add_number s.high s.low (n / 10 ^ 18) (n % 10 ^ 18) g p.low (omega arith) (omega arith) ∙ ap (λ (x : ℕ). value_of s + x) whole

-- a sum of up to a hundred million amounts is their sum
sum_from : (k : ℕ) (s : Sum) (ns : List ℕ) → all64 ns ≡ true → k + 19 * length ns < 2 ^ 31 → Small k s → value_of (fold add_amount s ns) ≡ value_of s + sum ns
sum_from k s [] a b p = omega arith
sum_from k s (n ∷ ns) a b p =
    let q = and_split (ltb n (2 ^ 64)) (all64 ns) a in
    let h = ltb-true n (2 ^ 64) q.0 in
    let j : k < 2 ^ 31 = omega (arith, b) in
    let v : value_of (add_amount s n) ≡ value_of s + n = value_add k n s h j p in
    let w : sum (n ∷ ns) ≡ n + sum ns = sum_by-cons (λ (x : ℕ). x) n ns in
    sum_from (k + 19) (add_amount s n) ns q.1 (omega (arith, b)) (small_add k n s h j p) ∙ omega (arith, v, w)

pub sum_exact : (ns : List ℕ) → all64 ns ≡ true → length ns ≤ 100000000 → value_of (fold add_amount (sum_of 0) ns) ≡ sum ns
sum_exact ns a l = sum_from 0 (sum_of 0) ns a (omega arith) (record { low = omega arith; high = omega arith }) ∙ omega arith

-- what a bundle pays out is the sum of its outputs
pub amount_exact : (b : SpendBundle) → all64 (flat_map amounts_of (spends_of b)) ≡ true → length (flat_map amounts_of (spends_of b)) ≤ 100000000 → value_of (amount_out b) ≡ sum (flat_map amounts_of (spends_of b))
unfolding amount_out
amount_exact b a l = sum_exact (flat_map amounts_of (spends_of b)) a l

-- ---- the text
-- the last digit stands last
padded_last : (k n : ℕ) → padded (suc k) n ≡ padded k (n / 10) ++ ((48 + n % 10) ∷ [])
unfolding padded
padded_last zero n = ap (λ (x : ℕ). (48 + x % 10) ∷ []) (div-one n)
padded_last (suc k) n =
    let d : n / 10 ^ suc k ≡ n / 10 / 10 ^ k = ap (λ (x : ℕ). n / x) (pow-suc 10 k ∙ mul_comm (10 ^ k) 10) ∙ sym (div-div-eq-div-mul n 10 (10 ^ k)) in
    ap (λ (t : List ℕ). (48 + n / 10 ^ suc k % 10) ∷ t) (padded_last k n)
    ∙ ap (λ (x : ℕ). (48 + x % 10) ∷ (padded k (n / 10) ++ ((48 + n % 10) ∷ []))) d

-- a number from m digits on, and the m digits behind it
high_digits : (m k h l : ℕ) → 0 < h → l < 10 ^ m → decimal_in (k + m) (h * 10 ^ m + l) ≡ decimal_in k h ++ padded m l
unfolding decimal_in padded
high_digits zero k h l p q =
    let e : h * 10 ^ 0 + l ≡ h = omega (arith, q) in
    let z : k + 0 ≡ k = omega arith in
    ap (decimal_in (k + 0)) e ∙ ap (λ (j : ℕ). decimal_in j h) z ∙ sym (append-nil (decimal_in k h))
high_digits (suc m) k h l p q =
    let x = h * 10 ^ m in
    let n = h * 10 ^ suc m + l in
    let e : h * 10 ^ suc m ≡ x * 10 = ap (λ (y : ℕ). h * y) (pow-suc 10 m) ∙ sym (mul_assoc h (10 ^ m) 10) in
    let o : 0 < x = mul-pos p (one-le-pow m 10 (omega arith)) in
    let d : n / 10 ≡ x + l / 10 = omega (arith, e) in
    let r : n % 10 ≡ l % 10 = omega (arith, e) in
    let s : k + suc m ≡ suc (k + m) = omega arith in
    let w : l / 10 < 10 ^ m = (div-lt_iff_lt-mul (zero-lt-suc 9)).1 (rw (sym (pow-suc 10 m)) q) in
    ap (λ (j : ℕ). decimal_in j n) s
    ∙ ap (λ (b : Bool). cond b ((48 + n) ∷ []) (decimal_in (k + m) (n / 10) ++ ((48 + n % 10) ∷ []))) (le-ltb n 10 (omega (arith, e, o)))
    ∙ ap (λ (y : ℕ). decimal_in (k + m) y ++ ((48 + n % 10) ∷ [])) d
    ∙ ap (λ (y : ℕ). decimal_in (k + m) (x + l / 10) ++ ((48 + y) ∷ [])) r
    ∙ ap (λ (t : List ℕ). t ++ ((48 + l % 10) ∷ [])) (high_digits m k h (l / 10) p w)
    ∙ append_assoc (decimal_in k h) (padded m (l / 10)) ((48 + l % 10) ∷ [])
    ∙ ap (λ (t : List ℕ). decimal_in k h ++ t) (sym (padded_last m l))

-- room for more digits than there are changes nothing
more_room : (k j n : ℕ) → n < 10 ^ suc k → decimal_in (suc (k + j)) n ≡ decimal_in (suc k) n
unfolding decimal_in
more_room zero j n h =
    let t = lt-ltb n 10 (omega (arith, h)) in
    ap (λ (b : Bool). cond b ((48 + n) ∷ []) (decimal_in (0 + j) (n / 10) ++ ((48 + n % 10) ∷ []))) t
    ∙ sym (ap (λ (b : Bool). cond b ((48 + n) ∷ []) (decimal_in 0 (n / 10) ++ ((48 + n % 10) ∷ []))) t)
more_room (suc k) j n h =
    let w : n / 10 < 10 ^ suc k = (div-lt_iff_lt-mul (zero-lt-suc 9)).1 (rw (sym (pow-suc 10 (suc k))) h) in
    let s : suc k + j ≡ suc (k + j) = omega arith in
    ap (λ (t : List ℕ). cond (ltb n 10) ((48 + n) ∷ []) (t ++ ((48 + n % 10) ∷ []))) (ap (λ (i : ℕ). decimal_in i (n / 10)) s ∙ more_room k j (n / 10) w)

-- the text of a sum is its number in decimal
pub sum_text_lem : (s : Sum) → s.low < 10 ^ 18 → sum_text s ≡ decimal_in 38 (value_of s)
unfolding sum_text decimal
sum_text_lem s q = go s.high s.low q
  where
    go : (h l : ℕ) → l < 10 ^ 18 → cond (eqb h 0) (decimal_in 20 l) (decimal_in 20 h ++ padded 18 l) ≡ decimal_in 38 (h * 10 ^ 18 + l)
    go zero l q =
        let e : 0 * 10 ^ 18 + l ≡ l = omega arith in
        sym (ap (decimal_in 38) e ∙ more_room 19 18 l (omega (arith, q)))
    go (suc h) l q =
        ap (λ (b : Bool). cond b (decimal_in 20 l) (decimal_in 20 (suc h) ++ padded 18 l)) (ne_eqb (suc h) 0 (λ e. omega arith))
        ∙ sym (high_digits 18 20 (suc h) l (omega arith) q)

-- sixteen of the largest amount
sixteen : sum_text (fold add_amount (sum_of 0) (replicate 16 (2 ^ 64 - 1))) ≡ ascii "295147905179352825840"
unfolding sum_text decimal decimal_in padded
sixteen = refl
