-- A coin string, its cell of 73 bytes, and its id.
use Rattle.std.specs.Prelude.{◌≡◌, List, ◌++◌, ℕ, ◌+◌, ◌≤◌, length, take}
use Rattle.std.proofs.Common.{ap, ◌∙◌, arith, length-append}
use Rattle.base_lists.specs.Lists.{cells}
use Rattle.base_lists.specs.Laws.{take_cells}
use Rattle.base_sha256.specs.Fips.{sha256_of}
use Rattle.base_coin_string.specs.declared.CoinString.{CoinString}
use Rattle.base_coin_string.specs.Amount.{atom_of}
use Rattle.base_coin_string.specs.AmountLaws.{atom_le}

-- `from_parts`: parent (32 bytes), puzzle hash (32), atom
abbrev pub coin_of_parts : List ℕ → List ℕ → ℕ → List ℕ
coin_of_parts parent hash amount = parent ++ hash ++ atom_of amount

-- a coin string in its cell: behind it zeros
abbrev pub cell_of : List ℕ → CoinString
cell_of xs = record { bytes = cells 73 0 xs; len = length xs }

-- the coin string of a cell; of a length over 73 it is the whole cell
abbrev pub coin_bytes : CoinString → List ℕ
coin_bytes c = take c.len c.bytes

-- `to_coin_id`: SHA-256 of the coin string
abbrev pub coin_id_of : List ℕ → List ℕ
coin_id_of xs = sha256_of xs

-- ---- laws
pub cell_bytes : (xs : List ℕ) → coin_bytes (cell_of xs) ≡ xs
cell_bytes xs = take_cells 73 0 xs

module _ (parent hash : List ℕ) (amount : ℕ) (lp : length parent ≡ 32) (lh : length hash ≡ 32) where
  parts_length : length (coin_of_parts parent hash amount) ≡ 64 + length (atom_of amount)
  parts_length = length-append (parent ++ hash) (atom_of amount) ∙ omega (arith, length-append parent hash)

  -- a coin made of parts has 64 to 73 bytes
  pub parts_least : 64 ≤ length (coin_of_parts parent hash amount)
  parts_least = omega (arith, parts_length)

  pub parts_most : length (coin_of_parts parent hash amount) ≤ 73
  parts_most = omega (arith, parts_length, atom_le amount)

-- what `from_parts` ensures
pub record FromParts (parent hash : List ℕ) (amount : ℕ) (r : CoinString) : Type 0 where
  pub is : r ≡ cell_of (coin_of_parts parent hash amount)
  pub least : 64 ≤ r.len
  pub most : r.len ≤ 73

-- its bytes are the coin
pub from_parts_bytes : {parent hash : List ℕ} {amount : ℕ} {r : CoinString} → FromParts parent hash amount r → coin_bytes r ≡ coin_of_parts parent hash amount
from_parts_bytes {parent} {hash} {amount} m = ap coin_bytes m.is ∙ cell_bytes (coin_of_parts parent hash amount)

pub from_parts_of : (parent hash : List ℕ) (amount : ℕ) {r : CoinString} → length parent ≡ 32 → length hash ≡ 32 → r ≡ cell_of (coin_of_parts parent hash amount) → FromParts parent hash amount r
from_parts_of parent hash amount {r} lp lh e =
    let n : r.len ≡ length (coin_of_parts parent hash amount) = ap (λ (c : CoinString). c.len) e in
    record {
      is = e;
      least = omega (arith, n, parts_least parent hash amount lp lh);
      most = omega (arith, n, parts_most parent hash amount lp lh);
    }
