-- The first output of a bundle among the coins observed. Paper 01, "Chain": "the search stops at the first output found among the
-- observed coins".
use Rattle.std.specs.Prelude.{Option, Some, None, ◌≡◌, refl, Bool, true, false, cond, ◌||◌, List, [], ◌∷◌, map, ℕ, ◌+◌}
use Rattle.std.proofs.Common.{sym, ap, ◌∙◌}
use Rattle.base_lists.specs.Laws.{any_append}
use Rattle.std.specs.List.{list_any, flat_map}
use Rattle.base_lists.specs.Bytes.{is_in}
use Rattle.book.specs.Sound.{spends_of, outputs_of}
use Rattle.book.specs.declared.Output.{Output}
use Rattle.book.specs.declared.CoinSpend.{CoinSpend}
use Rattle.book.specs.declared.SpendBundle.{SpendBundle}
use Rattle.book_coins.specs.Coins.{output_coin, expected_output_coins}

-- output j of spend i
abbrev pub Place : Type 0
Place = Option (ℕ × ℕ)

-- output j of spend i and those after it, and else what comes after this spend
abbrev pub in_outputs : List (List ℕ) → ℕ → ℕ → CoinSpend → List Output → Place → Place
in_outputs seen i j s [] rest = rest
in_outputs seen i j s (o ∷ os) rest = cond (is_in seen (output_coin s o)) (Some (i, j)) (in_outputs seen i (j + 1) s os rest)

-- spend i and those after it
abbrev pub in_spends : List (List ℕ) → ℕ → List CoinSpend → Place
in_spends seen i [] = None
in_spends seen i (s ∷ ss) = in_outputs seen i 0 s (outputs_of s) (in_spends seen (i + 1) ss)

abbrev pub found_of : List (List ℕ) → SpendBundle → Place
found_of seen b = in_spends seen 0 (spends_of b)

abbrev pub is_found : Place → Bool
is_found (Some (i, j)) = true
is_found None = false

-- ---- an output is found exactly if one of the expected outputs is observed
module _ (seen : List (List ℕ)) where
  outputs_any : (i j : ℕ) (s : CoinSpend) (os : List Output) (rest : Place) → is_found (in_outputs seen i j s os rest) ≡ (list_any (is_in seen) (map (output_coin s) os) || is_found rest)
  outputs_any i j s [] rest = refl
  outputs_any i j s (o ∷ os) rest = go (is_in seen (output_coin s o)) (outputs_any i (j + 1) s os rest)
    where
      go : (b : Bool) → is_found (in_outputs seen i (j + 1) s os rest) ≡ (list_any (is_in seen) (map (output_coin s) os) || is_found rest)
          → is_found (cond b (Some (i, j)) (in_outputs seen i (j + 1) s os rest)) ≡ (b || list_any (is_in seen) (map (output_coin s) os) || is_found rest)
      go true h = refl
      go false h = h

  spends_any : (i : ℕ) (ss : List CoinSpend) → is_found (in_spends seen i ss) ≡ list_any (is_in seen) (flat_map (λ s. map (output_coin s) (outputs_of s)) ss)
  spends_any i [] = refl
  spends_any i (s ∷ ss) =
      outputs_any i 0 s (outputs_of s) (in_spends seen (i + 1) ss)
      ∙ ap (λ (b : Bool). list_any (is_in seen) (map (output_coin s) (outputs_of s)) || b) (spends_any (i + 1) ss)
      ∙ sym (any_append (is_in seen) (map (output_coin s) (outputs_of s)) (flat_map (λ t. map (output_coin t) (outputs_of t)) ss))

  pub found_any : (b : SpendBundle) → is_found (found_of seen b) ≡ list_any (is_in seen) (expected_output_coins b)
  unfolding expected_output_coins
  found_any b = spends_any 0 (spends_of b)

-- ---- the loops' turns. w is the answer of the whole. Each record says that the answer of what is left is the answer of the whole
-- the outputs os are left, and then rest
pub record InOutputs (w : Place) (seen : List (List ℕ)) (i j : ℕ) (s : CoinSpend) (os : List Output) (rest : Place) : Type 0 where
  pub is : w ≡ in_outputs seen i j s os rest

pub record InSpends (w : Place) (seen : List (List ℕ)) (i : ℕ) (ss : List CoinSpend) : Type 0 where
  pub is : w ≡ in_spends seen i ss

module _ {w : Place} {seen : List (List ℕ)} {i j : ℕ} {s : CoinSpend} {os : List Output} {rest : Place} (h : InOutputs w seen i j s os rest) where
  module _ {o : Output} {os' : List Output} {c : List ℕ} (e : os ≡ o ∷ os') (q : c ≡ output_coin s o) where
    tested : (b : Bool) → b ≡ is_in seen c → w ≡ cond b (Some (i, j)) (in_outputs seen i (j + 1) s os' rest)
    tested b t =
        h.is ∙ ap (λ (l : List Output). in_outputs seen i j s l rest) e
        ∙ ap (λ (d : Bool). cond d (Some (i, j)) (in_outputs seen i (j + 1) s os' rest)) (ap (is_in seen) (sym q) ∙ sym t)

    pub hit : true ≡ is_in seen c → Some (i, j) ≡ w
    hit t = sym (tested true t)

    pub miss : false ≡ is_in seen c → InOutputs w seen i (j + 1) s os' rest
    miss t = record { is = tested false t }
