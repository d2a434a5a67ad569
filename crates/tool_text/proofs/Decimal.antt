-- The digits of a number, written from the last to the first.
use mathlib.Core.Path.{◌≡◌, sym, ap, ◌∙◌, subst}
use mathlib.Core.Bool.{Bool, cond}
use mathlib.Core.List.{List, [], ◌∷◌, ◌++◌, append_assoc, append-nil}
use Prim.Native.Nat.{ℕ, zero, suc, ◌+◌, ◌-◌, ◌/◌, ◌%◌, ◌^◌, ◌≤◌, ◌<◌}
use native.Mathlib.Omega.{arith}
use native.Mathlib.Nat.{pow-suc, div-lt_iff_lt-mul, zero-lt-suc}
use Rattle.std.proofs.Common.{add-one, div-one}
use Rattle.std.proofs.Math.Nat.{div-div-eq-div-mul}
use lib.ListN.{length, take, drop, set, length-set, drop_of_length-le}
use lib.Seq.{set_split, drop_at, length-take-le}
use borrow.Author.Tests.{lt-ltb, le-ltb}
use Rattle.tool_text.specs.Numbers.{decimal, decimal_in, padded}

-- what is left of n, and the digits that are written
pub record Spelt (n i rest : ℕ) (a : List ℕ) : Type 0 where
  pub some : 0 < i
  pub most : i ≤ 20
  pub below : rest < 10 ^ i
  pub long : length a ≡ 20
  pub text : decimal_in i rest ++ drop i a ≡ decimal n

pub spelt_start : (n : ℕ) (a : List ℕ) → n < 2 ^ 64 → length a ≡ 20 → Spelt n 20 n a
unfolding decimal
spelt_start n a h l = record {
  some = omega arith;
  most = omega arith;
  below = omega arith;
  long = l;
  text = ap (λ (t : List ℕ). decimal_in 20 n ++ t) (drop_of_length-le a {i = 20} (omega arith)) ∙ append-nil (decimal_in 20 n);
}

-- a digit stored before the others
stored : (a : List ℕ) (j x : ℕ) → j < length a → drop j (set a j x) ≡ x ∷ drop (suc j) a
stored a j x h = ap (drop j) (set_split a j x h) ∙ drop_at (take j a) (x ∷ drop (suc j) a) j (length-take-le j a (omega arith))

two_left : (i rest : ℕ) → 10 ≤ rest → rest < 10 ^ i → 1 < i
two_left zero rest h k = absurd (omega arith)
two_left (suc zero) rest h k = absurd (omega arith)
two_left (suc (suc i)) rest h k = omega arith

-- a digit is stored and divided off
pub spelt_turn : (n j rest : ℕ) (a : List ℕ) → 10 ≤ rest → Spelt n (suc j) rest a → Spelt n j (rest / 10) (set a j (48 + rest % 10))
unfolding decimal_in
spelt_turn n j rest a h s =
    let two = two_left (suc j) rest h s.below in
    let w : suc j ≤ 20 = s.most in
    let l : length a ≡ 20 = s.long in
    record {
      some = omega arith;
      most = omega arith;
      below = (div-lt_iff_lt-mul (zero-lt-suc 9)).1 (subst (λ (x : ℕ). rest < x) (pow-suc 10 j) s.below);
      long = length-set a j (48 + rest % 10) ∙ l;
      text =
          ap (λ (t : List ℕ). decimal_in j (rest / 10) ++ t) (stored a j (48 + rest % 10) (omega arith))
          ∙ sym (append_assoc (decimal_in j (rest / 10)) ((48 + rest % 10) ∷ []) (drop (suc j) a))
          ∙ ap (λ (b : Bool). cond b ((48 + rest) ∷ []) (decimal_in j (rest / 10) ++ ((48 + rest % 10) ∷ [])) ++ drop (suc j) a) (sym (le-ltb rest 10 h))
          ∙ s.text;
    }

-- the last digit is the first of the number
pub spelt_done : (n j rest : ℕ) (a : List ℕ) → rest < 10 → Spelt n (suc j) rest a → drop j (set a j (48 + rest)) ≡ decimal n
unfolding decimal_in
spelt_done n j rest a h s =
    let w : suc j ≤ 20 = s.most in
    let l : length a ≡ 20 = s.long in
    stored a j (48 + rest) (omega arith)
    ∙ ap (λ (b : Bool). cond b ((48 + rest) ∷ []) (decimal_in j (rest / 10) ++ ((48 + rest % 10) ∷ [])) ++ drop (suc j) a) (sym (lt-ltb rest 10 h))
    ∙ s.text

-- ---- the same by the place before i
pub spelt_next : (n i rest : ℕ) (a : List ℕ) → 10 ≤ rest → Spelt n i rest a → Spelt n (i - 1) (rest / 10) (set a (i - 1) (48 + rest % 10))
spelt_next n zero rest a h s = absurd (omega (arith, s.some))
spelt_next n (suc j) rest a h s =
    let e : j ≡ suc j - 1 = omega arith in
    subst (λ (k : ℕ). Spelt n k (rest / 10) (set a k (48 + rest % 10))) e (spelt_turn n j rest a h s)

pub spelt_last : (n i rest : ℕ) (a : List ℕ) → rest < 10 → Spelt n i rest a → drop (i - 1) (set a (i - 1) (48 + rest)) ≡ decimal n
spelt_last n zero rest a h s = absurd (omega (arith, s.some))
spelt_last n (suc j) rest a h s =
    let e : j ≡ suc j - 1 = omega arith in
    subst (λ (k : ℕ). drop k (set a k (48 + rest)) ≡ decimal n) e (spelt_done n j rest a h s)

-- ---- the last k digits, of which i are written and `rest` is left
pub record Padded (n i rest k : ℕ) (a : List ℕ) : Type 0 where
  pub left : rest ≡ n / 10 ^ i
  pub long : length a ≡ k
  pub text : drop (k - i) a ≡ padded i n

pub padded_start : (n k : ℕ) (a : List ℕ) → length a ≡ k → Padded n 0 n k a
unfolding padded
padded_start n k a l = record {
  left = sym (div-one n);
  long = l;
  text = drop_of_length-le a {i = k - 0} (omega arith);
}

pub padded_next : (n i rest k : ℕ) (a : List ℕ) → i < k → Padded n i rest k a → Padded n (i + 1) (rest / 10) k (set a (k - 1 - i) (48 + rest % 10))
unfolding padded
padded_next n i rest k a h p =
    let l : length a ≡ k = p.long in
    let x = 48 + rest % 10 in
    let j = k - 1 - i in
    let next : suc j ≡ k - i = omega arith in
    let here : k - suc i ≡ j = omega arith in
    subst (λ (m : ℕ). Padded n m (rest / 10) k (set a j x)) (sym (add-one i)) (record {
      left = ap (λ (y : ℕ). y / 10) p.left ∙ div-div-eq-div-mul n (10 ^ i) 10 ∙ ap (λ (y : ℕ). n / y) (sym (pow-suc 10 i));
      long = length-set a j x ∙ l;
      text =
          ap (λ (m : ℕ). drop m (set a j x)) here
          ∙ stored a j x (omega arith)
          ∙ ap (λ (m : ℕ). x ∷ drop m a) next
          ∙ ap (λ (t : List ℕ). x ∷ t) p.text
          ∙ ap (λ (y : ℕ). (48 + y % 10) ∷ padded i n) p.left;
    })

-- ---- the same by the place i that is written next, from the end on
pub padded_end : (n k : ℕ) (a : List ℕ) → length a ≡ k → Padded n (k - k) n k a
padded_end n k a l =
    let z : 0 ≡ k - k = omega arith in
    subst (λ (m : ℕ). Padded n m n k a) z (padded_start n k a l)

pub padded_down : (n i rest k : ℕ) (a : List ℕ) → 0 < i → i ≤ k → Padded n (k - i) rest k a → Padded n (k - (i - 1)) (rest / 10) k (set a (i - 1) (48 + rest % 10))
padded_down n i rest k a h b p =
    let e : k - 1 - (k - i) ≡ i - 1 = omega arith in
    let m : k - i + 1 ≡ k - (i - 1) = omega arith in
    let q = padded_next n (k - i) rest k a (omega arith) p in
    subst (λ (j : ℕ). Padded n (k - (i - 1)) (rest / 10) k (set a j (48 + rest % 10))) e
    (subst (λ (j : ℕ). Padded n j (rest / 10) k (set a (k - 1 - (k - i)) (48 + rest % 10))) m q)
