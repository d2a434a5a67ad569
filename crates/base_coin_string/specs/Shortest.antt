-- The amount atom is the amount in two's complement, and no shorter list of bytes is.
use Rattle.std.specs.Prelude.{◌≡◌, refl, Bool, true, false, cond, List, [], ◌∷◌, ℕ, zero, suc, ◌+◌, ◌*◌, ◌/◌, ◌%◌, ◌^◌, ◌≤◌, ◌<◌, ltb, length}
use Rattle.std.proofs.Common.{sym, ap, ◌∙◌, subst, mul-le-mul_right, mod-eq_of_lt, add-zero, pow-add, pow_mono, shr_lt, arith, ltb-true, lt-ltb}
use Rattle.std.proofs.Math.Nat.{mod-one}
use Rattle.std.proofs.lemmas.Nat.{mod-pow-add}
use Rattle.std.specs.List.{list_all}
use Rattle.base_lists.specs.Laws.{and_split, and_both}
use Rattle.base_coin_string.specs.Amount.{bound, atom_length, big_endian, atom_of}
use Rattle.base_coin_string.specs.AmountLaws.{big_length, atom_least, atom_fits}

-- a list of bytes as a number without sign, the high byte first
abbrev pub unsigned : List ℕ → ℕ
unsigned [] = 0
unsigned (b ∷ bs) = b * 2 ^ (8 * length bs) + unsigned bs

-- what two's complement takes away where the first bit is set
abbrev pub sign_of : List ℕ → ℕ
sign_of [] = 0
sign_of (b ∷ bs) = cond (ltb b 128) 0 (2 ^ (8 * suc (length bs)))

-- bs is n in two's complement
abbrev pub TwosComplement : List ℕ → ℕ → Type 0
TwosComplement bs n = unsigned bs ≡ n + sign_of bs

abbrev pub bytes : List ℕ → Bool
bytes bs = list_all (λ b. ltb b 256) bs

-- ---- k bytes are below 2 ^ (8 k), and below bound k where the first bit is not set
byte_pow : (l : ℕ) → 2 ^ (8 * suc l) ≡ 256 * 2 ^ (8 * l)
byte_pow l =
    let e : 8 * suc l ≡ 8 + 8 * l = omega arith in
    ap (λ (k : ℕ). 2 ^ k) e ∙ pow-add 2 8 (8 * l)

bound_pow : (l : ℕ) → bound (suc l) ≡ 128 * 2 ^ (8 * l)
bound_pow l =
    let e : 8 * l + 7 ≡ 7 + 8 * l = omega arith in
    ap (λ (k : ℕ). 2 ^ k) e ∙ pow-add 2 7 (8 * l)

led_lt : (b m P u : ℕ) → b < m → u < P → b * P + u < m * P
led_lt b m P u h l =
    let e : suc b * P ≤ m * P = mul-le-mul_right P h in
    omega (arith, suc-mul b P)
  where
    suc-mul : (b P : ℕ) → suc b * P ≡ b * P + P
    suc-mul b P = omega arith

unsigned_lt : (bs : List ℕ) → bytes bs ≡ true → unsigned bs < 2 ^ (8 * length bs)
unsigned_lt [] h = omega arith
unsigned_lt (b ∷ bs) h =
    let t = and_split (ltb b 256) (bytes bs) h in
    subst (λ (k : ℕ). unsigned (b ∷ bs) < k) (sym (byte_pow (length bs)))
    (led_lt b 256 (2 ^ (8 * length bs)) (unsigned bs) (ltb-true b 256 t.0) (unsigned_lt bs t.1))

-- ---- no list of bytes that is n is shorter than the atom
pub atom_shortest : (n : ℕ) (bs : List ℕ) → bytes bs ≡ true → TwosComplement bs n → length (atom_of n) ≤ length bs
atom_shortest n bs h e = subst (λ (k : ℕ). k ≤ length bs) (sym (big_length (atom_length n) n)) (atom_least n (length bs) (holds bs h e))
  where
    holds : (bs : List ℕ) → bytes bs ≡ true → TwosComplement bs n → n < bound (length bs)
    holds [] h e = omega arith
    holds (b ∷ bs) h e = go (ltb b 128) refl e
      where
        t : (ltb b 256 ≡ true) × (bytes bs ≡ true)
        t = and_split (ltb b 256) (bytes bs) h

        go : (s : Bool) → ltb b 128 ≡ s → unsigned (b ∷ bs) ≡ n + cond s 0 (2 ^ (8 * suc (length bs))) → n < bound (suc (length bs))
        go true q e =
            let l = led_lt b 128 (2 ^ (8 * length bs)) (unsigned bs) (ltb-true b 128 q) (unsigned_lt bs t.1) in
            omega (arith, bound_pow (length bs))
        go false q e = absurd (omega (arith, unsigned_lt (b ∷ bs) h))

-- ---- the atom is n
unsigned_big : (k n : ℕ) → unsigned (big_endian k n) ≡ n % 2 ^ (8 * k)
unsigned_big zero n = sym (mod-one n)
unsigned_big (suc k) n =
    let e : 8 + 8 * k ≡ 8 * suc k = omega arith in
    (λ j. n / 2 ^ (8 * k) % 2 ^ 8 * 2 ^ (8 * big_length k n j) + unsigned_big k n j)
    ∙ sym (mod-pow-add n 8 (8 * k)) ∙ ap (λ (m : ℕ). n % 2 ^ m) e

bound_le : (k : ℕ) → bound k ≤ 2 ^ (8 * k)
bound_le zero = omega arith
bound_le (suc k) = pow_mono {i = 8 * k + 7} {j = 8 * suc k} (omega arith)

no_sign : (k n : ℕ) → n < bound k → sign_of (big_endian k n) ≡ 0
no_sign zero n h = refl
no_sign (suc k) n h =
    let e : 8 * k + 7 ≡ 7 + 8 * k = omega arith in
    let l : n / 2 ^ (8 * k) < 128 = shr_lt 7 (8 * k) (subst (λ (m : ℕ). n < 2 ^ m) e h) in
    ap (λ (b : Bool). cond b 0 (2 ^ (8 * suc (length (big_endian k n))))) (lt-ltb (n / 2 ^ (8 * k) % 2 ^ 8) 128 (omega arith))

pub atom_is : (n : ℕ) → n < 2 ^ 64 → TwosComplement (atom_of n) n
atom_is n h =
    let k = atom_length n in
    let l : n < bound k = atom_fits n h in
    unsigned_big k n ∙ mod-eq_of_lt (omega (arith, bound_le k)) ∙ sym (ap (λ (s : ℕ). n + s) (no_sign k n l) ∙ add-zero n)

-- and it has no other elements than bytes
pub atom_bytes : (n : ℕ) → bytes (atom_of n) ≡ true
atom_bytes n = all (atom_length n)
  where
    all : (k : ℕ) → bytes (big_endian k n) ≡ true
    all zero = refl
    all (suc k) = and_both (lt-ltb (n / 2 ^ (8 * k) % 2 ^ 8) 256 (omega arith)) (all k)
