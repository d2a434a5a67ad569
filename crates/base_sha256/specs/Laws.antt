-- What callers use of the digest, and why the padding is the standard's.
use Rattle.std.specs.Prelude.{◌≡◌, refl, List, [], ◌∷◌, ℕ, zero, suc, ◌+◌, ◌/◌, ◌%◌, ◌^◌, ◌≤◌, ◌<◌, length, get_or}
use Rattle.std.proofs.Common.{arith}
use Rattle.base_sha256.specs.Fips.{Words, zeros, pad, hashed, be, digest, sha256_of}

-- a digest has 32 elements
pub digest_length : (m : List ℕ) → length (sha256_of m) ≡ 32
unfolding sha256_of
digest_length m = refl

data Bytes : List ℕ → Type 0 where
  none : Bytes []
  more : {x : ℕ} {xs : List ℕ} → x < 256 → Bytes xs → Bytes (x ∷ xs)

be_bytes : (x : ℕ) {r : List ℕ} → Bytes r → Bytes (be x r)
be_bytes x h = more (low (x / 2 ^ 24)) (more (low (x / 2 ^ 16)) (more (low (x / 2 ^ 8)) (more (low x) h)))
  where
    low : (y : ℕ) → y % 2 ^ 8 < 256
    low y = omega arith

byte_at : {xs : List ℕ} → Bytes xs → (i : ℕ) → get_or xs i 0 < 256
byte_at none i = omega arith
byte_at (more h r) zero = h
byte_at (more h r) (suc i) = byte_at r i

digest_of_bytes : (s : Words) → Bytes (digest s)
digest_of_bytes s =
    be_bytes s.a (be_bytes s.b (be_bytes s.c (be_bytes s.d (be_bytes s.e (be_bytes s.f (be_bytes s.g (be_bytes s.h none)))))))

-- and each is a byte
pub digest_bytes : (m : List ℕ) (i : ℕ) → get_or (sha256_of m) i 0 < 256
unfolding sha256_of
digest_bytes m = byte_at (digest_of_bytes (hashed (pad m) (length (pad m) / 64)))

-- §5.1.1: the zero bytes fill up to 56 modulo 64, and no fewer do
pub zeros_fit : (n : ℕ) → (n + 1 + zeros n) % 64 ≡ 56
zeros_fit n = omega arith

pub zeros_fewest : (n z : ℕ) → (n + 1 + z) % 64 ≡ 56 → zeros n ≤ z
zeros_fewest n z h = omega arith
