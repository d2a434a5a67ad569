-- Laws of the definitions of specs/, as the proofs of the loops use them. Assumes nothing.
use mathlib.Core.Path.{◌≡◌, refl, sym, ap, ◌∙◌}
use mathlib.Core.List.{List, [], ◌∷◌, ◌++◌}
use Prim.Native.Nat.{ℕ, min, zero, suc, ◌+◌, ◌-◌, ◌*◌, ◌/◌, ◌%◌, ◌^◌, ◌≤◌, ◌<◌}
use mathlib.Core.Logic.{⊎_elim}
use native.Mathlib.Nat.{mod-add-div', add-mul-div_right, add-mul-mod_self_right, eq-zero-or-pos, eq-or-lt_of_le}
use native.Mathlib.Numerals.{add-one}
use native.Mathlib.Omega.{arith}
use borrow.Author.Tests.{lt-ltb, le-ltb}
use lib.ListN.{length, get_or, take, drop, set, replicate, length-append, length-replicate, length-take, length-drop, length-set, get_or-replicate, get_or-append}
use lib.Seq.{take-suc-set, get_or-take, get_or-drop, get_or-append-add, get_or-set_same, get_or-set_other, ext_get_or, take-append-le, drop-append-le, drop-drop}
use Rattle.std.specs.Simd.{first_chunks}
use Rattle.base_sha256.specs.declared.State.{State}
use Rattle.base_sha256.specs.Fips.{Words, rounds, schedule, word_at, next, hashed, compress, block_at, pad, be64, zeros, digest}
use Rattle.base_sha256.specs.Code.{words_of, round_at, eight_at, padded, Unmarked, Behind, InBlock, digest_of}

module _ (k w : List ℕ) (s : Words) where
  rounds_next : (t n : ℕ) → n ≡ t + 1 → rounds k w s n ≡ round_at k w t (rounds k w s t)
  unfolding rounds
  rounds_next t n e = rw (e, add-one)

  pub rounds_eight : (t : ℕ) → rounds k w s (t + 8) ≡ eight_at k w t (rounds k w s t)
  rounds_eight t =
      rw (
        rounds_next (t + 7) (t + 8) (omega arith),
        rounds_next (t + 6) (t + 7) (omega arith),
        rounds_next (t + 5) (t + 6) (omega arith),
        rounds_next (t + 4) (t + 5) (omega arith),
        rounds_next (t + 3) (t + 4) (omega arith),
        rounds_next (t + 2) (t + 3) (omega arith),
        rounds_next (t + 1) (t + 2) (omega arith),
        rounds_next t (t + 1) refl,
      )

pub hashed_more : (m : List ℕ) (n : ℕ) → hashed m (n + 1) ≡ compress (hashed m n) (block_at m n)
unfolding hashed
hashed_more m n = rw add-one

-- the schedule, of which a store adds a word
module _ (b w : List ℕ) (t v : ℕ) (h : t < length w) (e : take t w ≡ schedule b t) where
  pub word_more : t < 16 → v ≡ word_at b t → take (t + 1) (set w t v) ≡ schedule b (t + 1)
  unfolding schedule
  word_more k q = rw (add-one, take-suc-set w t v h, lt-ltb t 16 k, e, q)

  pub next_more : 16 ≤ t → v ≡ next w t → take (t + 1) (set w t v) ≡ schedule b (t + 1)
  unfolding schedule
  next_more k q =
      rw (add-one, take-suc-set w t v h, le-ltb t 16 k, q, ← e, get_or-take t w (t - 2) 0 (omega arith), get_or-take t w (t - 7) 0 (omega arith), get_or-take t w (t - 15) 0 (omega arith), get_or-take t w (t - 16) 0 (omega arith))

-- what a padded message holds
module _ (s : List ℕ) (z : ℕ) (l : List ℕ) where
  pub padded_length : length (padded s z l) ≡ length s + 1 + z + length l
  unfolding padded
  padded_length = simp (length-append, length-replicate) (omega arith)

  pub padded_front : (i : ℕ) → i < length s → get_or (padded s z l) i 0 ≡ get_or s i 0
  unfolding padded
  padded_front i h = get_or-append s _ 0 i h

  past : (i k : ℕ) → i ≡ length s + k → get_or (padded s z l) i 0 ≡ get_or (0x80 ∷ (replicate z 0 ++ l)) k 0
  unfolding padded
  past i k e = rw (e, get_or-append-add)

  pub padded_mark : (i : ℕ) → i ≡ length s → get_or (padded s z l) i 0 ≡ 0x80
  padded_mark i e = past i 0 (omega arith)

  pub padded_zero : (i : ℕ) → length s < i → i < length s + 1 + z → get_or (padded s z l) i 0 ≡ 0
  padded_zero i h k =
      let p : i - length s - 1 < length {A = ℕ} (replicate z 0) = simp length-replicate (omega arith) in
      past i (suc (i - length s - 1)) (omega arith) ∙ get_or-append (replicate z 0) l 0 _ p ∙ get_or-replicate z _ 0 0 (omega arith)

  pub padded_back : (i k : ℕ) → i ≡ length s + 1 + z + k → get_or (padded s z l) i 0 ≡ get_or l k 0
  padded_back i k e =
      past i (suc (length (replicate z 0) + k)) (simp length-replicate (omega arith)) ∙ get_or-append-add (replicate z 0) l k 0

-- a block of zeros, with the bytes l at its end or without
pub length_at_end : (l r : List ℕ) (end at z : ℕ) → length l ≡ 8 → z ≡ 56 → end ≡ at + z → r ≡ replicate z 0 ++ l → Unmarked l end at r
length_at_end l r end at z n zs d e =
    record {
      size = rw e (simp (length-append, length-replicate) (omega arith));
      zeros = λ k i g. rw e (get_or-append (replicate z 0) l 0 k (simp length-replicate (omega arith)) ∙ get_or-replicate z k 0 0 (omega arith));
      back = λ k i g.
          let q : k ≡ length {A = ℕ} (replicate z 0) + (at + k - end) = simp length-replicate (omega arith) in
          ap (λ (y : List ℕ). get_or y k 0) e ∙ ap (λ (y : ℕ). get_or (replicate z 0 ++ l) y 0) q ∙ get_or-append-add (replicate z 0) l (at + k - end) 0;
    }

pub all_zero : (l : List ℕ) (end at z : ℕ) → z ≡ 64 → at + 64 ≤ end → Unmarked l end at (replicate z 0)
all_zero l end at z zs d =
    record {
      size = simp length-replicate (omega arith);
      zeros = λ k i g. get_or-replicate z k 0 0 (omega arith);
      back = λ k i g. absurd (omega arith);
    }

-- the mark, where it lies in the block
module _ (s l : List ℕ) (end at : ℕ) (b : List ℕ) (h : length s < end) (u : Unmarked l end at b) where
  past_mark : (k : ℕ) → k < 64 → length s < at + k → get_or b k 0 ≡ get_or (padded s (end - length s - 1) l) (at + k) 0
  past_mark k i g =
      ⊎_elim
      (λ e. u.back k i (omega arith) ∙ sym (padded_back s (end - length s - 1) l (at + k) (at + k - end) (omega arith)))
      (λ e. u.zeros k i (omega arith) ∙ sym (padded_zero s (end - length s - 1) l (at + k) g (omega arith)))
      (eq-zero-or-pos (end - (at + k)))

  pub no_mark : ((k : ℕ) → k < 64 → length s ≡ at + k → ⊥) → Behind (padded s (end - length s - 1) l) (length s) at b
  no_mark away =
      record {
        size = u.size;
        bytes = λ k i g. ⊎_elim (λ e. absurd (away k i e)) (λ e. past_mark k i e) (eq-or-lt_of_le g);
      }

  pub mark_set : (p : ℕ) → p < 64 → at + p ≡ length s → Behind (padded s (end - length s - 1) l) (length s) at (set b p 0x80)
  mark_set p i d =
      let z : length b ≡ 64 = u.size in
      record {
        size = simp length-set z;
        bytes = λ k j g.
            ⊎_elim
            (λ e.
            let q : k ≡ p = omega arith in
            rw q (get_or-set_same b p 0x80 0 (omega arith) ∙ sym (padded_mark s (end - length s - 1) l (at + p) d)))
            (λ e. get_or-set_other b p k 0x80 0 (λ q. omega arith) ∙ past_mark k j e)
            (eq-or-lt_of_le g);
      }

-- the message's bytes, in front of what lies behind them
pub block_is : (m s b : List ℕ) (at j : ℕ) → at + 64 ≤ length m → Behind m (length s) at b → InBlock (length s) at j
    → ((k : ℕ) → k < length s → get_or m k 0 ≡ get_or s k 0) → take j (drop (min at (length s)) s) ++ drop j b ≡ take 64 (drop at m)
block_is m s b at j h u q e =
    let front : List ℕ = take j (drop (min at (length s)) s) in
    let z : length b ≡ 64 = u.size in
    let f : length front ≡ j = simp (length-take, length-drop) (omega (arith, q.there)) in
    let y : length (take 64 (drop at m)) ≡ 64 = simp (length-take, length-drop) (omega arith) in
    ext_get_or 0 _ _ (simp (length-append, length-drop) (omega (arith, f, q.fits)) ∙ sym y)
    (λ k i.
    let l : k < 64 = omega (arith, i, f, length-append front (drop j b), length-drop j b, q.fits) in
    ⊎_elim (λ d. behind k l (omega arith) f) (λ d. own k (omega arith) f) (eq-zero-or-pos (j - k))
    ∙ sym (get_or-take 64 (drop at m) k 0 l ∙ get_or-drop at m k 0))
  where
    front : List ℕ
    front = take j (drop (min at (length s)) s)

    own : (k : ℕ) → k < j → length front ≡ j → get_or (front ++ drop j b) k 0 ≡ get_or m (at + k) 0
    own k i f =
        let a : min at (length s) + k ≡ at + k = omega (arith, q.there) in
        get_or-append front (drop j b) 0 k (omega arith) ∙ get_or-take j (drop (min at (length s)) s) k 0 i ∙ get_or-drop (min at (length s)) s k 0
        ∙ ap (λ (i : ℕ). get_or s i 0) a ∙ sym (e (at + k) (omega (arith, q.there)))

    behind : (k : ℕ) → k < 64 → j ≤ k → length front ≡ j → get_or (front ++ drop j b) k 0 ≡ get_or m (at + k) 0
    behind k i g f =
        let a : k ≡ length front + (k - j) = omega arith in
        let d : j + (k - j) ≡ k = omega arith in
        ap (λ (i : ℕ). get_or (front ++ drop j b) i 0) a ∙ get_or-append-add front (drop j b) (k - j) 0 ∙ get_or-drop j b (k - j) 0
        ∙ ap (λ (i : ℕ). get_or b i 0) d ∙ u.bytes k i (q.all k i g)

-- a block that the message fills is one of its whole chunks
chunk_at : (n i : ℕ) (s z : List ℕ) → i < n → get_or (first_chunks 64 n s) i z ≡ take 64 (drop (i * 64) s)
chunk_at zero i s z h = absurd (omega arith)
chunk_at (suc n) zero s z h = refl
chunk_at (suc n) (suc i) s z h =
    let q : 64 + i * 64 ≡ suc i * 64 = omega arith in
    chunk_at n i (drop 64 s) z (omega arith) ∙ ap (take 64) (drop-drop (i * 64) 64 s ∙ ap (λ (j : ℕ). drop j s) q)

pub front_block : (s z : List ℕ) (i : ℕ) → i < length s / 64 → get_or (first_chunks 64 (length s / 64) s) i z ≡ block_at (pad s) i
unfolding pad padded
front_block s z i h =
    chunk_at (length s / 64) i s z h
    ∙ sym (rw (drop-append-le (i * 64) s _ (omega arith)) (take-append-le 64 (drop (i * 64) s) _ (omega (arith, length-drop (i * 64) s))))

-- a byte of x modulo M, where the byte lies below M
byte_mod : (x M a k : ℕ) → 0 < a → ((q : ℕ) → q * M ≡ q * k * 2 ^ 8 * a) → x % M / a % 2 ^ 8 ≡ x / a % 2 ^ 8
byte_mod x M a k h e =
    sym
    (ap (λ (y : ℕ). y / a % 2 ^ 8) (sym (mod-add-div' x M) ∙ ap (λ (y : ℕ). x % M + y) (e (x / M)))
    ∙ ap (λ (y : ℕ). y % 2 ^ 8) (add-mul-div_right (x % M) (x / M * k * 2 ^ 8) h)
    ∙ add-mul-mod_self_right (x % M / a) (x / M * k) (2 ^ 8))

-- the length in bits wraps in the code, and its 64 bits are the same
length_bits : (x : ℕ) → be64 (x % 2 ^ 64) ≡ be64 x
length_bits x j =
    byte_mod x (2 ^ 64) (2 ^ 56) 1 (omega arith) (λ q. omega arith) j
    ∷ byte_mod x (2 ^ 64) (2 ^ 48) (2 ^ 8) (omega arith) (λ q. omega arith) j
    ∷ byte_mod x (2 ^ 64) (2 ^ 40) (2 ^ 16) (omega arith) (λ q. omega arith) j
    ∷ byte_mod x (2 ^ 64) (2 ^ 32) (2 ^ 24) (omega arith) (λ q. omega arith) j
    ∷ byte_mod x (2 ^ 64) (2 ^ 24) (2 ^ 32) (omega arith) (λ q. omega arith) j
    ∷ byte_mod x (2 ^ 64) (2 ^ 16) (2 ^ 40) (omega arith) (λ q. omega arith) j
    ∷ byte_mod x (2 ^ 64) (2 ^ 8) (2 ^ 48) (omega arith) (λ q. omega arith) j
    ∷ low j
    ∷ []
  where
    low : x % 2 ^ 64 % 2 ^ 8 ≡ x % 2 ^ 8
    low = omega arith

-- the message that the code pads
pub pad_is : (m : List ℕ) → padded m (((length m + 8) / 64 + 1) * 64 - 8 - length m - 1) (be64 (length m * 8 % 2 ^ 64)) ≡ pad m
unfolding pad padded
pad_is m =
    let e : ((length m + 8) / 64 + 1) * 64 - 8 - length m - 1 ≡ zeros (length m) = omega arith in
    rw (e, length_bits (length m * 8))

pub blocks_are : (m : List ℕ) → length (pad m) / 64 ≡ (length m + 8) / 64 + 1
unfolding pad
blocks_are m = simp (length-append, length-replicate) (omega arith)

pub digest_words : (s : State) → digest_of s ≡ digest (words_of s)
unfolding words_of
digest_words s = refl
