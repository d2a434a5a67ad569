-- Laws of Lists. Those under "a loop's turn" are what a loop over a slice or over the first n cells of an array asks.
use Rattle.std.specs.Prelude.{◌≡◌, refl, Bool, true, false, cond, not, ◌&&◌, ◌||◌, List, [], ◌∷◌, ◌++◌, map, ℕ, zero, suc, ◌+◌, ◌-◌, ◌<◌, ◌≤◌, min, eqb, ltb, leb, length, get_or, take, drop, set, replicate}
use Rattle.std.proofs.Common.{sym, ap, ◌∙◌, append_assoc, append-nil, le_refl, add-one, arith, eqb-true, eq-eqb, ne_eqb, lt-ltb, ltb-true, leb-true, leb-false, length-append, length-take, length-set, length-drop, drop_of_length-le, take-append-drop, drop-cons, take-suc-set, get_or-take, length-take-le, take_at, drop_at, take_all}
use Rattle.std.proofs.lemmas.Bool.{false≢true}
use Rattle.std.proofs.Math.Bool.{and_assoc}
use Rattle.std.proofs.Math.Dec.{leb-suc-suc}
use Rattle.std.proofs.lemmas.List.{length-replicate, set-append_left}
use Rattle.std.proofs.Math.Seq.{set-append_seam}
use Rattle.base_lists.specs.Lists.{index_of, cells, full_of, elemb, distinctb, insert_up, rising, risingb, push_new, tail_of}
use Rattle.std.specs.List.{list_all, list_any, filter, fold, flat_map}

-- ---- a loop's turn
module _ {A : Type 0} where
  -- what is left at i is the element at i and what is left at i + 1
  pub rest_step : (xs : List A) (i : ℕ) (d : A) → i < length xs → drop i xs ≡ get_or xs i d ∷ drop (i + 1) xs
  rest_step xs i d h = rw add-one (drop-cons xs i d h)

  -- the same over the first n of the cells
  pub counted_step : (xs : List A) (n i : ℕ) (d : A) → i < n → n ≤ length xs → drop i (take n xs) ≡ get_or xs i d ∷ drop (i + 1) (take n xs)
  counted_step xs n i d h k =
      rest_step (take n xs) i d (rw (length-take-le n xs k) h) ∙ ap (λ (y : A). y ∷ drop (i + 1) (take n xs)) (get_or-take n xs i d h)

  pub counted_end : (xs : List A) (n i : ℕ) → n ≤ i → n ≤ length xs → drop i (take n xs) ≡ []
  counted_end xs n i h k = drop_of_length-le (take n xs) {i = i} (rw (length-take-le n xs k) h)

  -- a store at k adds to the first k
  pub store_step : (xs : List A) (k : ℕ) (x : A) → k < length xs → take (k + 1) (set xs k x) ≡ take k xs ++ (x ∷ [])
  store_step xs k x h = rw add-one (take-suc-set xs k x h)

  pub snoc_append : (xs : List A) (x : A) (ys : List A) → (xs ++ (x ∷ [])) ++ ys ≡ xs ++ (x ∷ ys)
  snoc_append xs x ys = append_assoc xs (x ∷ []) ys

  pub length_snoc : (xs : List A) (x : A) → length (xs ++ (x ∷ [])) ≡ length xs + 1
  length_snoc xs x = length-append xs (x ∷ [])

pub full_of_lem : {A : Type 0} (p : A → Bool) (xs : List A) (n : ℕ) {r : Bool} → length xs ≡ n → r ≡ list_all p xs → r ≡ full_of n p xs
full_of_lem p xs n e h = h ∙ sym (ap (λ (b : Bool). b && list_all p xs) (eq-eqb (length xs) n e))

-- the part from i to the end
pub part_to_end : {A : Type 0} (xs : List A) (i : ℕ) → take (length xs - i) (drop i xs) ≡ drop i xs
part_to_end xs i = take_all (length xs - i) (drop i xs) (rw length-drop (le_refl _))

-- ---- conjunctions, disjunctions
abbrev pub ands : Bool → List Bool → Bool
ands a [] = a
ands a (b ∷ bs) = ands (a && b) bs

abbrev pub Trues : List Bool → Type 0
Trues [] = Unit
Trues (b ∷ bs) = (b ≡ true) × Trues bs

pub and_split : (a b : Bool) → (a && b) ≡ true → (a ≡ true) × (b ≡ true)
and_split true b h = (refl, h)
and_split false b h = (h, absurd (false≢true h))

pub and_both : {a b : Bool} → a ≡ true → b ≡ true → (a && b) ≡ true
and_both {a} {b} p q = ap (λ (x : Bool). x && b) p ∙ q

pub or-false : (a b : Bool) → (a || b) ≡ false → (a ≡ false) × (b ≡ false)
or-false true b h = absurd (false≢true (sym h))
or-false false b h = (refl, h)

-- a chain a && b && c that is true, as the facts that each part is
pub trues : (a : Bool) (bs : List Bool) → ands a bs ≡ true → (a ≡ true) × Trues bs
trues a [] h = (h, tt)
trues a (b ∷ bs) h =
    let t = trues (a && b) bs h in
    let u = and_split a b t.0 in
    (u.0, (u.1, t.1))

-- cells that all pass a test that only z passes are so many times z
all_eq : {A : Type 0} (p : A → Bool) (z : A) → ((x : A) → p x ≡ true → x ≡ z) → (ys : List A) → list_all p ys ≡ true → ys ≡ replicate (length ys) z
all_eq p z only [] h = refl
all_eq p z only (y ∷ ys) h =
    let t = and_split (p y) (list_all p ys) h in
    λ i. only y t.0 i ∷ all_eq p z only ys t.1 i

pub full_eq : {A : Type 0} (p : A → Bool) (z : A) → ((x : A) → p x ≡ true → x ≡ z) → (n : ℕ) (xs : List A) → full_of n p xs ≡ true → xs ≡ replicate n z
full_eq p z only n xs h =
    let t = and_split (eqb (length xs) n) (list_all p xs) h in
    all_eq p z only xs t.1 ∙ ap (λ (k : ℕ). replicate k z) (eqb-true (length xs) n t.0)

pub all_replicate : {A : Type 0} (p : A → Bool) (z : A) → p z ≡ true → (n : ℕ) → list_all p (replicate n z) ≡ true
all_replicate p z h zero = refl
all_replicate p z h (suc n) = ap (λ (x : Bool). x && list_all p (replicate n z)) h ∙ all_replicate p z h n

-- ---- counted cells
module _ {A : Type 0} (p : A → Bool) (z : A) (only : (x : A) → p x ≡ true → x ≡ z) where
  -- an array whose unused cells are z is the counted cells of its used part
  pub cells_take : (N n : ℕ) (xs : List A) → tail_of N p n xs ≡ true → n ≤ N → cells N z (take n xs) ≡ xs
  cells_take N n xs h k =
      let t = and_split (eqb (length xs) N) (list_all p (drop n xs)) h in
      let e : length xs ≡ N = eqb-true (length xs) N t.0 in
      let l : length (take n xs) ≡ n = length-take-le n xs (omega arith) in
      let d : length (drop n xs) ≡ N - n = length-drop n xs ∙ ap (λ (j : ℕ). j - n) e in
      let r : replicate (N - length (take n xs)) z ≡ drop n xs =
      ap (λ (j : ℕ). replicate (N - j) z) l ∙ ap (λ (j : ℕ). replicate j z) (sym d) ∙ sym (all_eq p z only (drop n xs) t.1) in
      ap (λ (ys : List A). take n xs ++ ys) r ∙ take-append-drop n xs

module _ {A : Type 0} where
  -- the length that a tail test tells
  pub tail_length : (N : ℕ) (p : A → Bool) (n : ℕ) (xs : List A) → tail_of N p n xs ≡ true → length xs ≡ N
  tail_length N p n xs h = eqb-true (length xs) N (and_split (eqb (length xs) N) (list_all p (drop n xs)) h).0

  pub length_cells : (N : ℕ) (z : A) (xs : List A) → length xs ≤ N → length (cells N z xs) ≡ N
  length_cells N z xs h = length-append xs (replicate (N - length xs) z) ∙ ap (λ (j : ℕ). length xs + j) (length-replicate (N - length xs) z) ∙ omega arith

  pub take_cells : (N : ℕ) (z : A) (xs : List A) → take (length xs) (cells N z xs) ≡ xs
  take_cells N z xs = take_at xs (replicate (N - length xs) z) (length xs) refl

  pub drop_cells : (N : ℕ) (z : A) (xs : List A) → drop (length xs) (cells N z xs) ≡ replicate (N - length xs) z
  drop_cells N z xs = drop_at xs (replicate (N - length xs) z) (length xs) refl

  pub tail_cells : (N : ℕ) (p : A → Bool) (z : A) (xs : List A) → p z ≡ true → length xs ≤ N → tail_of N p (length xs) (cells N z xs) ≡ true
  tail_cells N p z xs h k =
      and_both (eq-eqb (length (cells N z xs)) N (length_cells N z xs k)) (ap (list_all p) (drop_cells N z xs) ∙ all_replicate p z h (N - length xs))

  -- a store into a used cell
  pub set_cells : (N : ℕ) (z : A) (xs : List A) (i : ℕ) (x : A) → i < length xs → set (cells N z xs) i x ≡ cells N z (set xs i x)
  set_cells N z xs i x h =
      set-append_left xs (replicate (N - length xs) z) i x h ∙ ap (λ (j : ℕ). set xs i x ++ replicate (N - j) z) (sym (length-set xs i x))

  -- a store into the first unused cell
  pub push_cells : (N : ℕ) (z : A) (xs : List A) (x : A) → length xs < N → set (cells N z xs) (length xs) x ≡ cells N z (xs ++ (x ∷ []))
  push_cells N z xs x h =
      ap (λ (ys : List A). set (xs ++ ys) (length xs) x) (ap (λ (j : ℕ). replicate j z) e) ∙ set-append_seam xs z (replicate (N - length (xs ++ (x ∷ []))) z) x
      ∙ sym (append_assoc xs (x ∷ []) (replicate (N - length (xs ++ (x ∷ []))) z))
    where
      e : N - length xs ≡ suc (N - length (xs ++ (x ∷ [])))
      e = omega (arith, length-append xs (x ∷ []))

-- ---- the first that passes
module _ {A : Type 0} (p : A → Bool) where
  pub index_le : (xs : List A) → index_of p xs ≤ length xs
  index_le [] = le_refl _
  index_le (x ∷ xs) = go (p x) (index_le xs)
    where
      go : (b : Bool) → index_of p xs ≤ length xs → cond b 0 (suc (index_of p xs)) ≤ suc (length xs)
      go true h = omega arith
      go false h = omega arith

  pub any_index : (xs : List A) → list_any p xs ≡ ltb (index_of p xs) (length xs)
  any_index [] = refl
  any_index (x ∷ xs) = go (p x) (any_index xs)
    where
      go : (b : Bool) → list_any p xs ≡ ltb (index_of p xs) (length xs) → (b || list_any p xs) ≡ ltb (cond b 0 (suc (index_of p xs))) (suc (length xs))
      go true h = sym (lt-ltb 0 (suc (length xs)) (omega arith))
      go false h = h ∙ sym (leb-suc-suc (suc (index_of p xs)) (length xs))

pub tail_of_lem : {A : Type 0} (N : ℕ) (p : A → Bool) (n : ℕ) (xs : List A) {r : Bool} → length xs ≡ N → r ≡ list_all p (drop n xs) → r ≡ tail_of N p n xs
tail_of_lem N p n xs e h = h ∙ sym (ap (λ (b : Bool). b && list_all p (drop n xs)) (eq-eqb (length xs) N e))

-- a loop that appends f x of each x: what is done and what is left make up the whole w
module _ {A B : Type 0} where
  pub map_turn : (f : A → B) {w : List B} {x : A} {rest rest' : List A} (done : List B) {done' : List B} → rest ≡ x ∷ rest' → done' ≡ done ++ (f x ∷ []) → done ++ map f rest ≡ w → done' ++ map f rest' ≡ w
  map_turn f {w} {x} {rest} {rest'} done {done'} e d h =
      ap (λ (l : List B). l ++ map f rest') d ∙ append_assoc done (f x ∷ []) (map f rest') ∙ sym (ap (λ (l : List A). done ++ map f l) e) ∙ h

  pub map_done : (f : A → B) {w : List B} {rest : List A} (done : List B) → rest ≡ [] → done ++ map f rest ≡ w → done ≡ w
  map_done f {w} {rest} done e h = sym (append-nil done) ∙ sym (ap (λ (l : List A). done ++ map f l) e) ∙ h

  pub flat_turn : (f : A → List B) {w : List B} {x : A} {rest rest' : List A} (done : List B) {done' : List B} → rest ≡ x ∷ rest' → done' ≡ done ++ f x → done ++ flat_map f rest ≡ w → done' ++ flat_map f rest' ≡ w
  flat_turn f {w} {x} {rest} {rest'} done {done'} e d h =
      ap (λ (l : List B). l ++ flat_map f rest') d ∙ append_assoc done (f x) (flat_map f rest') ∙ sym (ap (λ (l : List A). done ++ flat_map f l) e) ∙ h

  pub flat_done : (f : A → List B) {w : List B} {rest : List A} (done : List B) → rest ≡ [] → done ++ flat_map f rest ≡ w → done ≡ w
  flat_done f {w} {rest} done e h = sym (append-nil done) ∙ sym (ap (λ (l : List A). done ++ flat_map f l) e) ∙ h

-- the part from i to the end of an array
pub array_part : {A : Type 0} (N : ℕ) (xs : List A) (i : ℕ) → length xs ≡ N → take (N - i) (drop i xs) ≡ drop i xs
array_part N xs i e = ap (λ (k : ℕ). take (k - i) (drop i xs)) (sym e) ∙ part_to_end xs i

-- ---- filters and insertions
module _ {A : Type 0} (p : A → Bool) where
  -- a loop that keeps what passes: what is done and what is left make up the whole w
  pub filter_keep : {w : List A} {x : A} {rest rest' : List A} (done : List A) → rest ≡ x ∷ rest' → p x ≡ true → done ++ filter p rest ≡ w → (done ++ (x ∷ [])) ++ filter p rest' ≡ w
  filter_keep {w} {x} {rest} {rest'} done e y h =
      append_assoc done (x ∷ []) (filter p rest')
      ∙ sym (ap (λ (l : List A). done ++ filter p l) e ∙ ap (λ (b : Bool). done ++ cond b (x ∷ filter p rest') (filter p rest')) y) ∙ h

  pub filter_skip : {w : List A} {x : A} {rest rest' : List A} (done : List A) → rest ≡ x ∷ rest' → p x ≡ false → done ++ filter p rest ≡ w → done ++ filter p rest' ≡ w
  filter_skip {w} {x} {rest} {rest'} done e n h =
      sym (ap (λ (l : List A). done ++ filter p l) e ∙ ap (λ (b : Bool). done ++ cond b (x ∷ filter p rest') (filter p rest')) n) ∙ h

  pub filter_done : {w : List A} {rest : List A} (done : List A) → rest ≡ [] → done ++ filter p rest ≡ w → done ≡ w
  filter_done {w} {rest} done e h = sym (append-nil done) ∙ sym (ap (λ (l : List A). done ++ filter p l) e) ∙ h

  pub filter_length : (xs : List A) → length (filter p xs) ≤ length xs
  filter_length [] = le_refl _
  filter_length (x ∷ xs) = go (p x) (filter_length xs)
    where
      go : (b : Bool) → length (filter p xs) ≤ length xs → length (cond b (x ∷ filter p xs) (filter p xs)) ≤ suc (length xs)
      go true h = omega arith
      go false h = omega arith

module _ {A : Type 0} where
  -- an array of N cells that is z from w on, and a store at w
  pub push_normal : (N : ℕ) (z : A) (out : List A) (w : ℕ) (x : A) → out ≡ cells N z (take w out) → length out ≡ N → w < N → set out w x ≡ cells N z (take (w + 1) (set out w x))
  push_normal N z out w x e l h =
      let t : length (take w out) ≡ w = length-take-le w out (omega arith) in
      ap (λ (ys : List A). set ys w x) e
      ∙ ap (λ (k : ℕ). set (cells N z (take w out)) k x) (sym t)
      ∙ push_cells N z (take w out) x (omega arith)
      ∙ ap (cells N z) (sym (store_step out w x (omega arith)))

-- x goes before the first that is greater
pub insert_split : (x : ℕ) (ys : List ℕ) → insert_up x ys ≡ take (index_of (λ y. ltb x y) ys) ys ++ (x ∷ drop (index_of (λ y. ltb x y) ys) ys)
insert_split x [] = refl
insert_split x (y ∷ ys) = go (ltb x y) (insert_split x ys)
  where
    go : (b : Bool) → insert_up x ys ≡ take (index_of (λ z. ltb x z) ys) ys ++ (x ∷ drop (index_of (λ z. ltb x z) ys) ys)
        → cond b (x ∷ y ∷ ys) (y ∷ insert_up x ys) ≡ take (cond b 0 (suc (index_of (λ z. ltb x z) ys))) (y ∷ ys) ++ (x ∷ drop (cond b 0 (suc (index_of (λ z. ltb x z) ys))) (y ∷ ys))
    go true h = refl
    go false h = ap (λ (l : List ℕ). y ∷ l) h

pub insert_length : (x : ℕ) (ys : List ℕ) → length (insert_up x ys) ≡ suc (length ys)
insert_length x [] = refl
insert_length x (y ∷ ys) = go (ltb x y) (insert_length x ys)
  where
    go : (b : Bool) → length (insert_up x ys) ≡ suc (length ys) → length (cond b (x ∷ y ∷ ys) (y ∷ insert_up x ys)) ≡ suc (suc (length ys))
    go true h = refl
    go false h = ap suc h

insertions_length : (acc xs : List ℕ) → length (fold (λ ys x. insert_up x ys) acc xs) ≡ length acc + length xs
insertions_length acc [] = omega arith
insertions_length acc (x ∷ xs) = insertions_length (insert_up x acc) xs ∙ omega (arith, insert_length x acc)

pub rising_length : (xs : List ℕ) → length (rising xs) ≡ length xs
rising_length xs = insertions_length [] xs ∙ omega arith

-- a loop that folds: the answer of the whole w is the answer from here on
module _ {A B : Type 0} (f : B → A → B) where
  pub fold_turn : {w : B} (acc : B) {acc' : B} {x : A} {rest rest' : List A} → rest ≡ x ∷ rest' → acc' ≡ f acc x → fold f acc rest ≡ w → fold f acc' rest' ≡ w
  fold_turn acc {acc'} {x} {rest} {rest'} e a h = ap (λ (b : B). fold f b rest') a ∙ sym (ap (fold f acc) e) ∙ h

  pub fold_done : {w : B} (acc : B) {rest : List A} → rest ≡ [] → fold f acc rest ≡ w → acc ≡ w
  fold_done acc {rest} e h = sym (ap (fold f acc) e) ∙ h

pub push_new_grows : (xs : List ℕ) (x : ℕ) → length xs ≤ length (push_new xs x)
push_new_grows xs x = go (elemb x xs)
  where
    go : (b : Bool) → length xs ≤ length (cond b xs (xs ++ (x ∷ [])))
    go true = le_refl _
    go false = rw length-append (omega arith)

pub fold_grows : (xs ys : List ℕ) → length xs ≤ length (fold push_new xs ys)
fold_grows xs [] = le_refl _
fold_grows xs (y ∷ ys) =
    let h = push_new_grows xs y in
    let k = fold_grows (push_new xs y) ys in
    omega arith

-- ---- a count beyond the cells takes them all
pub take_min : {A : Type 0} (N n : ℕ) (xs : List A) → length xs ≡ N → take (min n N) xs ≡ take n xs
take_min {A} N n xs e = go (leb n N) refl
  where
    go : (b : Bool) → leb n N ≡ b → take (min n N) xs ≡ take n xs
    go true h =
        let l : n ≤ N = leb-true n N h in
        let m : min n N ≡ n = omega arith in
        ap (λ (k : ℕ). take k xs) m
    go false h =
        let l : N < n = leb-false n N h in
        let m : min n N ≡ N = omega arith in
        ap (λ (k : ℕ). take k xs) m ∙ take_all N xs (omega arith) ∙ sym (take_all n xs (omega arith))

-- a count k that a call has cut at the length N of an array takes the same
pub take_cut : {A : Type 0} (N n k : ℕ) (xs : List A) → length xs ≡ N → k ≡ min n N → take k xs ≡ take n xs
take_cut N n k xs e h = ap (λ (j : ℕ). take j xs) h ∙ take_min N n xs e

pub count_cut : {A : Type 0} (N n k : ℕ) (xs : List A) → length xs ≡ N → k ≡ min n N → k ≡ length (take n xs)
count_cut N n k xs e h = h ∙ ap (min n) (sym e) ∙ sym (length-take n xs)

-- ---- a test of every element, and of each
module _ {A : Type 0} (p : A → Bool) where
  pub all_at : (xs : List A) (i : ℕ) (d : A) → list_all p xs ≡ true → i < length xs → p (get_or xs i d) ≡ true
  all_at [] i d h l = absurd (omega arith)
  all_at (x ∷ xs) zero d h l = (and_split (p x) (list_all p xs) h).0
  all_at (x ∷ xs) (suc i) d h l = all_at xs i d (and_split (p x) (list_all p xs) h).1 (omega arith)

  pub all_append : (xs ys : List A) → list_all p xs ≡ true → list_all p ys ≡ true → list_all p (xs ++ ys) ≡ true
  all_append [] ys h k = k
  all_append (x ∷ xs) ys h k = let t = and_split (p x) (list_all p xs) h in and_both t.0 (all_append xs ys t.1 k)

  pub all_snoc : (xs : List A) (x : A) → list_all p xs ≡ true → p x ≡ true → list_all p (xs ++ (x ∷ [])) ≡ true
  all_snoc xs x h k = all_append xs (x ∷ []) h (and_both k refl)

  pub any_append : (xs ys : List A) → list_any p (xs ++ ys) ≡ (list_any p xs || list_any p ys)
  any_append [] ys = refl
  any_append (x ∷ xs) ys = go (p x) (any_append xs ys)
    where
      go : (b : Bool) → list_any p (xs ++ ys) ≡ (list_any p xs || list_any p ys) → (b || list_any p (xs ++ ys)) ≡ (b || list_any p xs || list_any p ys)
      go true h = refl
      go false h = h

  pub any_same : (q : A → Bool) → ((x : A) → p x ≡ q x) → (xs : List A) → list_any p xs ≡ list_any q xs
  any_same q h [] = refl
  any_same q h (x ∷ xs) = λ i. h x i || any_same q h xs i

pub elem_append : (x : ℕ) (xs ys : List ℕ) → elemb x (xs ++ ys) ≡ (elemb x xs || elemb x ys)
elem_append x [] ys = refl
elem_append x (y ∷ xs) ys = go (eqb y x) (elem_append x xs ys)
  where
    go : (b : Bool) → elemb x (xs ++ ys) ≡ (elemb x xs || elemb x ys) → (b || elemb x (xs ++ ys)) ≡ (b || elemb x xs || elemb x ys)
    go true h = refl
    go false h = h

pub flat_append : {A B : Type 0} (f : A → List B) (xs ys : List A) → flat_map f (xs ++ ys) ≡ flat_map f xs ++ flat_map f ys
flat_append f [] ys = refl
flat_append {B = B} f (x ∷ xs) ys = ap (λ (l : List B). f x ++ l) (flat_append f xs ys) ∙ sym (append_assoc (f x) (flat_map f xs) (flat_map f ys))

-- ---- a loop that tests that each element is below the next: i are passed, and the rest starts at the last of them
pub rising_short : (xs : List ℕ) → length xs ≤ 1 → risingb xs ≡ true
rising_short [] h = refl
rising_short (x ∷ []) h = refl
rising_short (x ∷ y ∷ ys) h = absurd (omega arith)

-- ---- rising lists
-- the rest of a rising list is rising, and its elements are above the first
pub rising_rest : (x : ℕ) (xs : List ℕ) → risingb (x ∷ xs) ≡ true → risingb xs ≡ true
rising_rest x [] h = refl
rising_rest x (y ∷ ys) h = (and_split (ltb x y) (risingb (y ∷ ys)) h).1

pub rising_above : (x z : ℕ) (xs : List ℕ) → risingb (x ∷ xs) ≡ true → z ≤ x → elemb z xs ≡ false
rising_above x z [] h l = refl
rising_above x z (y ∷ ys) h l =
    let t = and_split (ltb x y) (risingb (y ∷ ys)) h in
    let m : x < y = ltb-true x y t.0 in
    ap (λ (b : Bool). b || elemb z ys) (ne_eqb y z (λ e. omega arith)) ∙ rising_above y z ys t.1 (omega arith)

-- a rising list has no number twice
pub rising_distinct : (xs : List ℕ) → risingb xs ≡ true → distinctb xs ≡ true
rising_distinct [] h = refl
rising_distinct (x ∷ xs) h = and_both (ap not (rising_above x x xs h (le_refl _))) (rising_distinct xs (rising_rest x xs h))

-- ---- a test of every element that does not leave early
pub all_folded : {A : Type 0} (p : A → Bool) (b : Bool) (xs : List A) → fold (λ (ok : Bool) (x : A). ok && p x) b xs ≡ (b && list_all p xs)
all_folded p true [] = refl
all_folded p false [] = refl
all_folded p b (x ∷ xs) = all_folded p (b && p x) xs ∙ and_assoc b (p x) (list_all p xs)
