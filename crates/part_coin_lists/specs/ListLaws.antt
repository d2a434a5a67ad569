-- Laws of lists that building coin lists asks.
use Rattle.std.specs.Prelude.{◌≡◌, refl, List, [], ◌∷◌, ◌++◌, map, ℕ, zero, suc, take, drop}
use Rattle.std.proofs.Common.{sym, ap, ◌∙◌, append_assoc}
use Rattle.std.specs.List.{fold}
use Rattle.codec_forms.specs.Wire.{enc_many}

module _ {A B : Type 0} (f : A → B) where
  pub map_take : (k : ℕ) (xs : List A) → map f (take k xs) ≡ take k (map f xs)
  map_take zero xs = refl
  map_take (suc k) [] = refl
  map_take (suc k) (x ∷ xs) = ap (λ (l : List B). f x ∷ l) (map_take k xs)

  pub map_drop : (k : ℕ) (xs : List A) → map f (drop k xs) ≡ drop k (map f xs)
  map_drop zero xs = refl
  map_drop (suc k) [] = refl
  map_drop (suc k) (x ∷ xs) = map_drop k xs

pub fold_append : {A B : Type 0} (f : B → A → B) (b : B) (xs ys : List A) → fold f b (xs ++ ys) ≡ fold f (fold f b xs) ys
fold_append f b [] ys = refl
fold_append f b (x ∷ xs) ys = fold_append f (f b x) xs ys

pub many_append : {A : Type 0} (enc : A → List ℕ) (xs ys : List A) → enc_many enc (xs ++ ys) ≡ enc_many enc xs ++ enc_many enc ys
unfolding enc_many
many_append enc [] ys = refl
many_append enc (x ∷ xs) ys = ap (λ (l : List ℕ). enc x ++ l) (many_append enc xs ys) ∙ sym (append_assoc (enc x) (enc_many enc xs) (enc_many enc ys))
