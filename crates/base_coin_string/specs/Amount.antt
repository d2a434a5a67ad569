-- The amount atom (paper: "shortest big-endian two's complement of a u64; 0 is empty").
use Rattle.std.specs.Prelude.{◌≡◌, refl, cond, List, [], ◌∷◌, ℕ, zero, suc, ◌+◌, ◌-◌, ◌*◌, ◌/◌, ◌%◌, ◌^◌, ltb}

-- the numbers from 0 on that k bytes of two's complement hold are those below bound k: 7 bits of the first byte and 8 of each other; no bytes hold 0
abbrev pub bound : ℕ → ℕ
bound zero = 1
bound (suc k) = 2 ^ (8 * k + 7)

-- the first of k, k + 1, .., k + j whose bytes hold n
abbrev pub fewest : ℕ → ℕ → ℕ → ℕ
fewest zero k n = k
fewest (suc j) k n = cond (ltb n (bound k)) k (fewest j (suc k) n)

-- the fewest bytes that hold n. Nine hold every n below 2 ^ 71
abbrev pub atom_length : ℕ → ℕ
atom_length n = fewest 9 0 n

-- the last k bytes of n, the high one first
abbrev pub big_endian : ℕ → ℕ → List ℕ
big_endian zero n = []
big_endian (suc k) n = n / 2 ^ (8 * k) % 2 ^ 8 ∷ big_endian k n

abbrev pub atom_of : ℕ → List ℕ
atom_of n = big_endian (atom_length n) n

-- the four amounts of the paper
amount_0 : atom_of 0 ≡ []
amount_0 = refl

amount_127 : atom_of 127 ≡ 0x7f ∷ []
amount_127 = refl

amount_128 : atom_of 128 ≡ 0 ∷ 0x80 ∷ []
amount_128 = refl

amount_max : atom_of (2 ^ 64 - 1) ≡ 0 ∷ 0xff ∷ 0xff ∷ 0xff ∷ 0xff ∷ 0xff ∷ 0xff ∷ 0xff ∷ 0xff ∷ []
amount_max = refl
