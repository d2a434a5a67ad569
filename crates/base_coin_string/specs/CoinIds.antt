-- Coin ids listed in bytes, 32 for each.
use Rattle.std.specs.Prelude.{◌≡◌, refl, Bool, ◌&&◌, ◌||◌, List, [], ◌∷◌, ℕ, zero, suc, ◌/◌, ◌%◌, eqb, leb, length, take, drop}
use Rattle.std.specs.List.{list_any}
use Rattle.std.specs.Simd.{first_chunks}
use Rattle.base_lists.specs.Bytes.{eqs, is_in}
use Rattle.std.proofs.Common.{ap}

-- what refusal 2 asks of coin ids: "0 to 800 times 32 bytes"
abbrev pub id_listb : List ℕ → Bool
id_listb s = eqb (length s % 32) 0 && leb (length s / 32) 800

-- the first n ids
abbrev pub ids_from : ℕ → List ℕ → List (List ℕ)
ids_from zero s = []
ids_from (suc n) s = take 32 s ∷ ids_from n (drop 32 s)

abbrev pub ids_in : List ℕ → List (List ℕ)
ids_in s = ids_from (length s / 32) s

-- an id among the first n runs of 32 bytes
pub among_chunks : (c : List ℕ) (n : ℕ) (s : List ℕ) → list_any (λ (x : List ℕ). eqs x c) (first_chunks 32 n s) ≡ is_in (ids_from n s) c
among_chunks c zero s = refl
among_chunks c (suc n) s = ap (λ (b : Bool). eqs (take 32 s) c || b) (among_chunks c n (drop 32 s))
