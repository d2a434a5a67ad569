-- What every element has, under the list functions that the steps use.
use Rattle.std.specs.Prelude.{ℕ, Bool, true, false, cond, eqb, ltb}
use mathlib.Core.List.{List, [], ◌∷◌, ◌++◌, map}
use Rattle.base_lists.specs.Lists.{elemb, insert_up, rising, push_new}
use Rattle.std.specs.List.{filter, fold}
use Rattle.book.specs.Typed.{Every}
use Rattle.archive_laws.specs.Cells.{every_append}
use Rattle.rules.specs.Keyed.{change}

pub either : {A : Type 0} (P : A → Type 0) (t : Bool) (x y : A) → P x → P y → P (cond t x y)
either P true x y h k = h
either P false x y h k = k

module _ {A : Type 0} (P : A → Type 0) where
  pub every_filter : (t : A → Bool) (xs : List A) → Every P xs → Every P (filter t xs)
  every_filter t [] h = tt
  every_filter t (x ∷ xs) h = either (Every P) (t x) (x ∷ filter t xs) (filter t xs) (h.0, every_filter t xs h.1) (every_filter t xs h.1)

  pub every_end : (xs : List A) (x : A) → Every P xs → P x → Every P (xs ++ (x ∷ []))
  every_end xs x h k = every_append P xs (x ∷ []) h (k, tt)

  pub every_change : (key : A → ℕ) (i : ℕ) (f : A → A) → ((x : A) → P x → P (f x)) → (xs : List A) → Every P xs → Every P (change key i f xs)
  unfolding change
  every_change key i f k [] h = tt
  every_change key i f k (x ∷ xs) h = (either P (eqb (key x) i) (f x) x (k x h.0) h.0, every_change key i f k xs h.1)

pub every_image : {A B : Type 0} (P : A → Type 0) (Q : B → Type 0) (f : A → B) → ((x : A) → P x → Q (f x)) → (xs : List A) → Every P xs → Every Q (map f xs)
every_image P Q f k [] h = tt
every_image P Q f k (x ∷ xs) h = (k x h.0, every_image P Q f k xs h.1)

module _ (P : ℕ → Type 0) where
  pub every_push : (xs : List ℕ) (x : ℕ) → Every P xs → P x → Every P (push_new xs x)
  every_push xs x h k = either (Every P) (elemb x xs) xs (xs ++ (x ∷ [])) h (every_end P xs x h k)

  pub every_insert : (x : ℕ) (xs : List ℕ) → P x → Every P xs → Every P (insert_up x xs)
  every_insert x [] k h = (k, tt)
  every_insert x (y ∷ ys) k h = either (Every P) (ltb x y) (x ∷ y ∷ ys) (y ∷ insert_up x ys) (k, h) (h.0, every_insert x ys k h.1)

  every_inserts : (xs acc : List ℕ) → Every P xs → Every P acc → Every P (fold (λ a x. insert_up x a) acc xs)
  every_inserts [] acc h k = k
  every_inserts (x ∷ xs) acc h k = every_inserts xs (insert_up x acc) h.1 (every_insert x acc h.0 k)

  pub every_rising : (xs : List ℕ) → Every P xs → Every P (rising xs)
  every_rising xs h = every_inserts xs [] h tt
