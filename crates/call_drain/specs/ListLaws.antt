-- An element put at a place of a list, or behind its end.
use Prim.Native.Nat.{ℕ, zero, suc, ◌≤◌, ◌<◌}
use mathlib.Core.List.{List, [], ◌∷◌, ◌++◌}
use Rattle.std.specs.Prelude.{◌≡◌, length, get_or, set}
use Rattle.std.proofs.Math.Path.{refl, ap}
use native.Mathlib.Omega.{arith}

module _ {A : Type 0} where
  unfoldable pub put_at : ℕ → A → List A → List A
  put_at zero x [] = x ∷ []
  put_at zero x (y ∷ ys) = x ∷ ys
  put_at (suc k) x [] = []
  put_at (suc k) x (y ∷ ys) = y ∷ put_at k x ys

  -- in place of an element
  pub put_set : (k : ℕ) (x : A) (xs : List A) → k < length xs → put_at k x xs ≡ set xs k x
  unfolding put_at
  put_set k x [] h = absurd (omega arith)
  put_set zero x (y ∷ ys) h = refl
  put_set (suc k) x (y ∷ ys) h = ap (λ (zs : List A). y ∷ zs) (put_set k x ys (omega arith))

  -- behind the end
  pub put_end : (x : A) (xs : List A) → put_at (length xs) x xs ≡ xs ++ x ∷ []
  unfolding put_at
  put_end x [] = refl
  put_end x (y ∷ ys) = ap (λ (zs : List A). y ∷ zs) (put_end x ys)

  module _ (x : A) where
    pub put_within : (k : ℕ) (xs : List A) → k ≤ length xs → k < length (put_at k x xs)
    unfolding put_at
    put_within zero [] h = omega arith
    put_within zero (y ∷ ys) h = omega arith
    put_within (suc k) [] h = absurd (omega arith)
    put_within (suc k) (y ∷ ys) h = let t = put_within k ys (omega arith) in omega arith

    pub get_put : (k : ℕ) (xs : List A) (d : A) → k ≤ length xs → get_or (put_at k x xs) k d ≡ x
    unfolding put_at
    get_put zero [] d h = refl
    get_put zero (y ∷ ys) d h = refl
    get_put (suc k) [] d h = absurd (omega arith)
    get_put (suc k) (y ∷ ys) d h = get_put k ys d (omega arith)

    pub set_put : (k : ℕ) (xs : List A) (y : A) → k ≤ length xs → set (put_at k x xs) k y ≡ put_at k y xs
    unfolding put_at
    set_put zero [] y h = refl
    set_put zero (z ∷ zs) y h = refl
    set_put (suc k) [] y h = absurd (omega arith)
    set_put (suc k) (z ∷ zs) y h = ap (λ (ws : List A). z ∷ ws) (set_put k zs y (omega arith))
