-- The parts builder: a cell that gets a byte more, or a list of bytes more.
use Rattle.std.specs.Prelude.{◌≡◌, refl, List, [], ◌∷◌, ◌++◌, ℕ, ◌+◌, ◌≤◌, ◌<◌, suc, length, take, drop, set}
use Rattle.std.proofs.Common.{sym, ap, ◌∙◌, append-nil, append_assoc, arith, length-append, length-set, take-append-drop, add-zero, drop-drop}
use Rattle.std.proofs.lemmas.List.{drop-set-lt}
use Rattle.base_lists.specs.Laws.{push_cells, store_step, snoc_append}
use Rattle.base_coin_string.specs.declared.CoinString.{CoinString}
use Rattle.base_coin_string.specs.Amount.{atom_of}
use Rattle.base_coin_string.specs.AmountLaws.{atom_le}
use Rattle.base_coin_string.specs.Coin.{coin_of_parts, cell_of}

abbrev pub pushed : CoinString → ℕ → CoinString
pushed c b = record { bytes = set c.bytes c.len b; len = c.len + 1 }

abbrev pub pushes : CoinString → List ℕ → CoinString
pushes c [] = c
pushes c (b ∷ bs) = pushes (pushed c b) bs

pub pushes_append : (c : CoinString) (xs ys : List ℕ) → pushes c (xs ++ ys) ≡ pushes (pushes c xs) ys
pushes_append c [] ys = refl
pushes_append c (x ∷ xs) ys = pushes_append (pushed c x) xs ys

pub pushes_len : (c : CoinString) (xs : List ℕ) → (pushes c xs).len ≡ c.len + length xs
pushes_len c [] = omega arith
pushes_len c (x ∷ xs) = pushes_len (pushed c x) xs ∙ omega arith

-- bytes stored in one go, of which the cell has room
pub pushes_is : (c : CoinString) (s : List ℕ) → c.len + length s ≤ length c.bytes
    → record { bytes = take c.len c.bytes ++ (s ++ drop (length s) (drop c.len c.bytes)); len = c.len + length s } ≡ pushes c s
pushes_is c [] h = λ j. record { bytes = take-append-drop c.len c.bytes j; len = add-zero c.len j }
pushes_is c (b ∷ s) h = (λ j. record { bytes = stored j; len = more j }) ∙ pushes_is (pushed c b) s (simp length-set (omega arith))
  where
    xs : List ℕ
    xs = c.bytes

    more : c.len + suc (length s) ≡ c.len + 1 + length s
    more = omega arith

    one : 1 + length s ≡ suc (length s)
    one = omega arith

    stored : take c.len xs ++ ((b ∷ s) ++ drop (suc (length s)) (drop c.len xs)) ≡ take (c.len + 1) (set xs c.len b) ++ (s ++ drop (length s) (drop (c.len + 1) (set xs c.len b)))
    stored = sym (rw (store_step xs c.len b (omega arith), drop-set-lt (c.len + 1) xs c.len b (omega arith), snoc_append, ← drop-drop 1 c.len xs, drop-drop (length s) 1 (drop c.len xs)) (ap (λ (k : ℕ). take c.len xs ++ (b ∷ (s ++ drop k (drop c.len xs)))) one))

pub pushed_cell : (xs : List ℕ) (b : ℕ) → length xs < 73 → pushed (cell_of xs) b ≡ cell_of (xs ++ (b ∷ []))
pushed_cell xs b h = λ j. record { bytes = push_cells 73 0 xs b h j; len = grown j }
  where
    grown : length xs + 1 ≡ length (xs ++ (b ∷ []))
    grown = sym (length-append xs (b ∷ []))

pub pushes_cell : (xs ys : List ℕ) → length xs + length ys ≤ 73 → pushes (cell_of xs) ys ≡ cell_of (xs ++ ys)
pushes_cell xs [] h = ap cell_of (sym (append-nil xs))
pushes_cell xs (y ∷ ys) h =
    ap (λ (c : CoinString). pushes c ys) (pushed_cell xs y (omega arith)) ∙ pushes_cell (xs ++ (y ∷ [])) ys (omega (arith, length-append xs (y ∷ []))) ∙ ap cell_of (append_assoc xs (y ∷ []) ys)

-- the parts one after the other
pub parts_cell : (parent hash : List ℕ) (amount : ℕ) → length parent ≡ 32 → length hash ≡ 32 → pushes (pushes (pushes (cell_of []) parent) hash) (atom_of amount) ≡ cell_of (coin_of_parts parent hash amount)
parts_cell parent hash amount lp lh =
    ap (λ (c : CoinString). pushes (pushes c hash) (atom_of amount)) (pushes_cell [] parent (omega arith))
    ∙ ap (λ (c : CoinString). pushes c (atom_of amount)) (pushes_cell parent hash (omega arith))
    ∙ pushes_cell (parent ++ hash) (atom_of amount) (omega (arith, length-append parent hash, atom_le amount))
