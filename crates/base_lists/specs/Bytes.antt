-- Equality of lists of bytes, and its laws.
use Rattle.std.specs.Prelude.{◌≡◌, refl, Bool, true, false, ◌&&◌, ◌||◌, List, [], ◌∷◌, ℕ, suc, eqb, length}
use Rattle.std.proofs.Common.{sym, ap, ◌∙◌, eqb-true}
use Rattle.std.proofs.lemmas.Bool.{false≢true}
use Rattle.base_lists.specs.Laws.{and_split}
pub use Rattle.base_lists.specs.Laws.{rest_step, counted_step, counted_end}

abbrev pub eqs : List ℕ → List ℕ → Bool
eqs [] [] = true
eqs [] (y ∷ ys) = false
eqs (x ∷ xs) [] = false
eqs (x ∷ xs) (y ∷ ys) = eqb x y && eqs xs ys

pub eqs_true : (xs ys : List ℕ) → eqs xs ys ≡ true → xs ≡ ys
eqs_true [] [] h = refl
eqs_true [] (y ∷ ys) h = absurd (false≢true h)
eqs_true (x ∷ xs) [] h = absurd (false≢true h)
eqs_true (x ∷ xs) (y ∷ ys) h =
    let t = and_split (eqb x y) (eqs xs ys) h in
    λ i. eqb-true x y t.0 i ∷ eqs_true xs ys t.1 i

pub eqs_lengths : (xs ys : List ℕ) → (length xs ≡ length ys → ⊥) → eqs xs ys ≡ false
eqs_lengths [] [] h = absurd (h refl)
eqs_lengths [] (y ∷ ys) h = refl
eqs_lengths (x ∷ xs) [] h = refl
eqs_lengths (x ∷ xs) (y ∷ ys) h = go (eqb x y) (eqs_lengths xs ys (λ e. h (ap suc e)))
  where
    go : (b : Bool) → eqs xs ys ≡ false → (b && eqs xs ys) ≡ false
    go true k = k
    go false k = refl

-- c is one of the lists
abbrev pub is_in : List (List ℕ) → List ℕ → Bool
is_in [] c = false
is_in (x ∷ xs) c = eqs x c || is_in xs c

-- a loop that looks for c: the answer of the whole w is the answer of what is left
module _ (c : List ℕ) {w : Bool} {xs : List (List ℕ)} where
  pub in_hit : {x : List ℕ} {xs' : List (List ℕ)} → xs ≡ x ∷ xs' → true ≡ eqs x c → w ≡ is_in xs c → true ≡ w
  in_hit {x} {xs'} e q h = sym (h ∙ ap (λ (l : List (List ℕ)). is_in l c) e ∙ ap (λ (b : Bool). b || is_in xs' c) (sym q))

  pub in_turn : {x : List ℕ} {xs' : List (List ℕ)} → xs ≡ x ∷ xs' → false ≡ eqs x c → w ≡ is_in xs c → w ≡ is_in xs' c
  in_turn {x} {xs'} e q h = h ∙ ap (λ (l : List (List ℕ)). is_in l c) e ∙ ap (λ (b : Bool). b || is_in xs' c) (sym q)

  pub in_done : xs ≡ [] → w ≡ is_in xs c → false ≡ w
  in_done e h = sym (h ∙ ap (λ (l : List (List ℕ)). is_in l c) e)
