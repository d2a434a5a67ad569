-- What the code's own steps are in terms of the standard's.
use Rattle.std.specs.Prelude.{◌≡◌, ℕ, ◌+◌, ◌-◌, ◌≤◌, ◌<◌, List, [], ◌∷◌, ◌++◌, length, get_or, replicate}
use Rattle.base_sha256.specs.Fips.{Words, round, be}
use Rattle.base_sha256.specs.declared.State.{State}

-- the code's struct as eight words
unfoldable pub words_of : State → Words
words_of s = record { a = s.a; b = s.b; c = s.c; d = s.d; e = s.e; f = s.f; g = s.g; h = s.h }

-- the round t
abbrev pub round_at : List ℕ → List ℕ → ℕ → Words → Words
round_at k w t s = round s (get_or k t 0) (get_or w t 0)

-- eight rounds, which the code does in a row
abbrev pub eight_at : List ℕ → List ℕ → ℕ → Words → Words
eight_at k w t s =
    round_at k w (t + 7) (round_at k w (t + 6) (round_at k w (t + 5) (round_at k w (t + 4) (round_at k w (t + 3) (round_at k w (t + 2) (round_at k w (t + 1) (round_at k w t s)))))))

-- a message with a one bit, z zero bytes and the bytes l behind it
unfoldable pub padded : List ℕ → ℕ → List ℕ → List ℕ
padded m z l = m ++ (0x80 ∷ (replicate z 0 ++ l))

-- a block at the place `at` of zero bytes up to `end`, with the bytes l behind them
pub record Unmarked (l : List ℕ) (end at : ℕ) (r : List ℕ) : Type 0 where
  pub size : length r ≡ 64
  pub zeros : (k : ℕ) → k < 64 → at + k < end → get_or r k 0 ≡ 0
  pub back : (k : ℕ) → k < 64 → end ≤ at + k → get_or r k 0 ≡ get_or l (at + k - end) 0

-- a block that has what m has from the place `at` on, as far as that lies behind n bytes
pub record Behind (m : List ℕ) (n at : ℕ) (r : List ℕ) : Type 0 where
  pub size : length r ≡ 64
  pub bytes : (k : ℕ) → k < 64 → n ≤ at + k → get_or r k 0 ≡ get_or m (at + k) 0

-- of n bytes, r lie in the 64 from the place `at` on
pub record InBlock (n at r : ℕ) : Type 0 where
  pub fits : r ≤ 64
  pub there : r ≤ n - at
  pub all : (k : ℕ) → k < 64 → r ≤ k → n ≤ at + k

-- the digest of the code's struct
abbrev pub digest_of : State → List ℕ
digest_of s = be s.a (be s.b (be s.c (be s.d (be s.e (be s.f (be s.g (be s.h [])))))))
