-- What the elements of a list have, in counted cells and in a list that is read element by element.
use Rattle.std.specs.Prelude.{◌≡◌, refl, Bool, true, ◌&&◌, List, [], ◌∷◌, ◌++◌, ℕ, zero, suc, ◌-◌, ◌≤◌, length, take, replicate}
use Rattle.std.proofs.Common.{sym, append_assoc, arith, length-take-le}
use Rattle.base_lists.specs.Lists.{cells, tail_of}
use Rattle.std.specs.List.{list_all}
use Rattle.base_lists.specs.Laws.{Trues, ands, and_both, and_split, length_cells, tail_length}
use Rattle.codec_forms.specs.Wire.{run}
use Rattle.codec_forms.specs.Lawful.{Lawful, IsBytes, regood}
use Rattle.codec_forms.specs.Items.{AllFrom}
use Rattle.codec_forms.proofs.Items.{run_lawful}
use Rattle.book.specs.Typed.{Every, U8, Array, Bytes}

-- parts one after the other: as they are read and as they are written
pub six : (a b c d e f : List ℕ) → a ++ (b ++ (c ++ (d ++ (e ++ f)))) ≡ a ++ b ++ c ++ d ++ e ++ f
six a b c d e f = sym (simp append_assoc)

-- a chain a && b && c of true tests
pub all_true : (a : Bool) (bs : List Bool) → a ≡ true → Trues bs → ands a bs ≡ true
all_true a [] h t = h
all_true a (b ∷ bs) h t = all_true (a && b) bs (and_both h t.0) t.1

module _ {A : Type 0} (P : A → Type 0) where
  pub every_append : (xs ys : List A) → Every P xs → Every P ys → Every P (xs ++ ys)
  every_append [] ys h k = k
  every_append (x ∷ xs) ys h k = (h.0, every_append xs ys h.1 k)

  pub every_replicate : (n : ℕ) (z : A) → P z → Every P (replicate n z)
  every_replicate zero z h = tt
  every_replicate (suc n) z h = (h, every_replicate n z h)

  pub every_take : (n : ℕ) (xs : List A) → Every P xs → Every P (take n xs)
  every_take zero xs h = tt
  every_take (suc n) [] h = tt
  every_take (suc n) (x ∷ xs) h = (h.0, every_take n xs h.1)

  -- a list in n cells behind which z stands
  pub array_cells : (n : ℕ) (z : A) (xs : List A) → length xs ≤ n → Every P xs → P z → Array n P (cells n z xs)
  array_cells n z xs l h k = record {
    long = length_cells n z xs l;
    each = every_append xs (replicate (n - length xs) z) h (every_replicate (n - length xs) z k);
  }

  -- elements that do not go by those before them
  pub every_from : (before xs : List A) → AllFrom (λ b x. P x) before xs → Every P xs
  every_from before [] h = tt
  every_from before (x ∷ xs) h = (h.0, every_from (before ++ (x ∷ [])) xs h.1)

  pub from_every : (before xs : List A) → Every P xs → AllFrom (λ b x. P x) before xs
  from_every before [] h = tt
  from_every before (x ∷ xs) h = (h.0, from_every (before ++ (x ∷ [])) xs h.1)

-- a test that every element passes
pub every_test : {A : Type 0} (test : A → Bool) (xs : List A) → list_all test xs ≡ true → Every (λ x. test x ≡ true) xs
every_test test [] h = tt
every_test test (x ∷ xs) h = let t = and_split (test x) (list_all test xs) h in (t.0, every_test test xs t.1)

pub test_every : {A : Type 0} (test : A → Bool) (xs : List A) → Every (λ x. test x ≡ true) xs → list_all test xs ≡ true
test_every test [] h = refl
test_every test (x ∷ xs) h = and_both h.0 (test_every test xs h.1)

pub every_map : {A : Type 0} {P Q : A → Type 0} → ((x : A) → P x → Q x) → (xs : List A) → Every P xs → Every Q xs
every_map f [] h = tt
every_map f (x ∷ xs) h = (f x h.0, every_map f xs h.1)

pub every_both : {A : Type 0} (P Q : A → Type 0) (xs : List A) → Every P xs → Every Q xs → Every (λ x. P x × Q x) xs
every_both P Q [] h k = tt
every_both P Q (x ∷ xs) h k = ((h.0, k.0), every_both P Q xs h.1 k.1)

-- how many of the cells are in use
pub used_length : {A : Type 0} (N : ℕ) (p : A → Bool) (n : ℕ) (xs : List A) → tail_of N p n xs ≡ true → n ≤ N → length (take n xs) ≡ n
used_length N p n xs h k = let e = tail_length N p n xs h in length-take-le n xs (omega arith)

-- ---- bytes
pub bytes_every : (l : List ℕ) → IsBytes l → Every U8 l
bytes_every [] b = tt
bytes_every (x ∷ l) b = (b 0, bytes_every l (λ i. b (suc i)))

pub every_bytes : (l : List ℕ) → Every U8 l → IsBytes l
every_bytes [] h i = omega arith
every_bytes (x ∷ l) h zero = h.0
every_bytes (x ∷ l) h (suc i) = every_bytes l h.1 i

pub bytes_lawful : (n : ℕ) → Lawful (Bytes n) (λ l. l) (run n)
bytes_lawful n =
    regood (λ l x. record { long = x.long; bytes = every_bytes l x.each }) (λ l x. record { long = x.long; each = bytes_every l x.bytes }) (run_lawful n)
