-- From a place to the element there and to what is said by key. Each law holds for elements of any kind.
use Rattle.std.proofs.Math.Path.{◌≡◌, refl, ap}
use Rattle.std.proofs.Common.{sym, ◌∙◌, arith}
use Rattle.std.specs.Prelude.{Bool, cond, not, ◌||◌, eqb, get_or, set, drop}
use Rattle.std.proofs.Math.Bool.{true, false}
use Rattle.std.proofs.lemmas.Bool.{false≢true}
use mathlib.Core.List.{List, [], ◌∷◌, map}
use Prim.Native.Nat.{ℕ, zero, suc, ◌≤◌, ◌<◌}
use Rattle.std.proofs.Math.Dec.{ltb}
use borrow.Author.Tests.{eq-eqb, ne_eqb, not-true, lt-ltb, ltb-true, ltb-false}
use Rattle.std.proofs.Math.ListN.{length}
use Rattle.base_lists.specs.Lists.{elemb, distinctb, index_of}
use Rattle.std.specs.List.{filter, list_any, prefix_len}
use Rattle.base_lists.specs.Laws.{and_split, any_index, or-false}
use Rattle.rules.specs.Keyed.{pick, change}
use Rattle.std.specs.Prelude.{Option, Some, None, ◌+◌, unwrap_or}
use Rattle.std.proofs.lemmas.Option.{none-some}
use Rattle.part_lookup.specs.Place.{place_of}

-- ---- a place that was found, and one that was not
module _ {A : Type 0} (p : A → Bool) where
  -- k is the place of the first element that passes
  pub record First (xs : List A) (k : ℕ) : Type 0 where
    pub within : k < length xs
    pub index : k ≡ index_of p xs

  passes : (xs : List A) (d : A) → index_of p xs < length xs → p (get_or xs (index_of p xs) d) ≡ true
  passes [] d h = absurd (omega arith)
  passes (x ∷ xs) d h = go (p x) refl h (λ l. passes xs d l)
    where
      go : (t : Bool) → p x ≡ t → cond t 0 (suc (index_of p xs)) < suc (length xs) → (index_of p xs < length xs → p (get_or xs (index_of p xs) d) ≡ true)
          → p (get_or (x ∷ xs) (cond t 0 (suc (index_of p xs))) d) ≡ true
      go true e l ih = e
      go false e l ih = ih (omega arith)

  filtered : (xs : List A) (d : A) → index_of p xs < length xs → filter p xs ≡ get_or xs (index_of p xs) d ∷ filter p (drop (suc (index_of p xs)) xs)
  filtered [] d h = absurd (omega arith)
  filtered (x ∷ xs) d h = go (p x) h (λ l. filtered xs d l)
    where
      go : (t : Bool) → cond t 0 (suc (index_of p xs)) < suc (length xs)
          → (index_of p xs < length xs → filter p xs ≡ get_or xs (index_of p xs) d ∷ filter p (drop (suc (index_of p xs)) xs))
          → cond t (x ∷ filter p xs) (filter p xs) ≡ get_or (x ∷ xs) (cond t 0 (suc (index_of p xs))) d ∷ filter p (drop (suc (cond t 0 (suc (index_of p xs)))) (x ∷ xs))
      go true l ih = refl
      go false l ih = ih (omega arith)

  none : (xs : List A) → length xs ≤ index_of p xs → filter p xs ≡ []
  none [] h = refl
  none (x ∷ xs) h = go (p x) h (λ l. none xs l)
    where
      go : (t : Bool) → suc (length xs) ≤ cond t 0 (suc (index_of p xs)) → (length xs ≤ index_of p xs → filter p xs ≡ []) → cond t (x ∷ filter p xs) (filter p xs) ≡ []
      go true l ih = absurd (omega arith)
      go false l ih = ih (omega arith)

  index_is : (xs : List A) → prefix_len (λ x. not (p x)) xs ≡ index_of p xs
  index_is [] = refl
  index_is (x ∷ xs) = go (p x) (index_is xs)
    where
      go : (t : Bool) → prefix_len (λ y. not (p y)) xs ≡ index_of p xs → cond (not t) (1 + prefix_len (λ y. not (p y)) xs) 0 ≡ cond t 0 (suc (index_of p xs))
      go true e = refl
      go false e = omega arith

  -- by the place of the first that passes, or the length
  abbrev placed : Bool → ℕ → Option ℕ
  placed true k = Some k
  placed false k = None

  place_placed : (xs : List A) → place_of p xs ≡ placed (ltb (index_of p xs) (length xs)) (index_of p xs)
  place_placed xs = ap (λ (k : ℕ). cond (ltb k (length xs)) (Some k) None) (index_is xs) ∙ by (ltb (index_of p xs) (length xs))
    where
      by : (t : Bool) → cond t (Some (index_of p xs)) None ≡ placed t (index_of p xs)
      by true = refl
      by false = refl

  module _ (xs : List A) where
    pub first_passes : {k : ℕ} (d : A) → First xs k → p (get_or xs k d) ≡ true
    first_passes d f = ap (λ (j : ℕ). p (get_or xs j d)) f.index ∙ passes xs d (let e = f.index in let h = f.within in omega arith)

    pub first_filter : {k : ℕ} (d : A) → First xs k → filter p xs ≡ get_or xs k d ∷ filter p (drop (suc k) xs)
    first_filter d f =
        filtered xs d (let e = f.index in let h = f.within in omega arith)
        ∙ ap (λ (j : ℕ). get_or xs j d ∷ filter p (drop (suc j) xs)) (sym f.index)

    -- the two answers
    pub at_first : {k : ℕ} → place_of p xs ≡ Some k → First xs k
    at_first {k} e = go (ltb (index_of p xs) (length xs)) refl (sym (place_placed xs) ∙ e)
      where
        go : (t : Bool) → ltb (index_of p xs) (length xs) ≡ t → placed t (index_of p xs) ≡ Some k → First xs k
        go true h q =
            let s : k ≡ index_of p xs = ap (λ o. unwrap_or o k) (sym q) in
            let l : index_of p xs < length xs = ltb-true (index_of p xs) (length xs) h in
            record { within = omega arith; index = s }
        go false h q = absurd (none-some k q)

    pub none_passes : place_of p xs ≡ None → filter p xs ≡ []
    none_passes e = go (ltb (index_of p xs) (length xs)) refl (sym (place_placed xs) ∙ e)
      where
        go : (t : Bool) → ltb (index_of p xs) (length xs) ≡ t → placed t (index_of p xs) ≡ None → filter p xs ≡ []
        go true h q = absurd (none-some (index_of p xs) (sym q))
        go false h q = none xs (ltb-false (index_of p xs) (length xs) h)

    pub any_placed : {k : ℕ} → place_of p xs ≡ Some k → list_any p xs ≡ true
    any_placed e = let f = at_first e in any_index p xs ∙ lt-ltb (index_of p xs) (length xs) (let i = f.index in let h = f.within in omega arith)

    pub none_any : place_of p xs ≡ None → list_any p xs ≡ false
    none_any e = any_index p xs ∙ go (ltb (index_of p xs) (length xs)) (sym (place_placed xs) ∙ e)
      where
        go : (t : Bool) → placed t (index_of p xs) ≡ None → t ≡ false
        go true q = absurd (none-some (index_of p xs) (sym q))
        go false q = refl

module _ {A : Type 0} (key : A → ℕ) where
  pub absent_pick : (i : ℕ) (xs : List A) → elemb i (map key xs) ≡ false → pick key i xs ≡ []
  unfolding pick
  absent_pick i [] h = refl
  absent_pick i (x ∷ xs) h = let t = or-false (eqb (key x) i) (elemb i (map key xs)) h in rw t.0 (absent_pick i xs t.1)

  pub absent_change : (i : ℕ) (f : A → A) (xs : List A) → elemb i (map key xs) ≡ false → change key i f xs ≡ xs
  unfolding change
  absent_change i f [] h = refl
  absent_change i f (x ∷ xs) h = let t = or-false (eqb (key x) i) (elemb i (map key xs)) h in rw (t.0, absent_change i f xs t.1) refl

  -- the keys have i exactly if an element of that key is found
  pub any_key : (i : ℕ) (xs : List A) → list_any (λ x. eqb (key x) i) xs ≡ elemb i (map key xs)
  any_key i [] = refl
  any_key i (x ∷ xs) = ap (λ (t : Bool). eqb (key x) i || t) (any_key i xs)

  there : (xs : List A) (k : ℕ) (d : A) → k < length xs → elemb (key (get_or xs k d)) (map key xs) ≡ true
  there [] k d h = absurd (omega arith)
  there (x ∷ xs) zero d h = rw (eq-eqb (key x) (key x) refl) refl
  there (x ∷ xs) (suc k) d h = go (eqb (key x) (key (get_or xs k d))) (there xs k d (omega arith))
    where
      go : (t : Bool) → elemb (key (get_or xs k d)) (map key xs) ≡ true → (t || elemb (key (get_or xs k d)) (map key xs)) ≡ true
      go true e = refl
      go false e = e

  apart : (x : A) (xs : List A) (k : ℕ) (d : A) → k < length xs → elemb (key x) (map key xs) ≡ false → eqb (key x) (key (get_or xs k d)) ≡ false
  apart x xs k d h n = ne_eqb (key x) (key (get_or xs k d)) (λ e. false≢true (sym n ∙ ap (λ (i : ℕ). elemb i (map key xs)) e ∙ there xs k d h))

  picked : (xs : List A) (k : ℕ) (d : A) → k < length xs → distinctb (map key xs) ≡ true → pick key (key (get_or xs k d)) xs ≡ get_or xs k d ∷ []
  unfolding pick
  picked [] k d h u = absurd (omega arith)
  picked (x ∷ xs) zero d h u =
      let t = and_split (not (elemb (key x) (map key xs))) (distinctb (map key xs)) u in
      rw (eq-eqb (key x) (key x) refl, absent_pick (key x) xs (not-true (elemb (key x) (map key xs)) t.0)) refl
  picked (x ∷ xs) (suc k) d h u =
      let t = and_split (not (elemb (key x) (map key xs))) (distinctb (map key xs)) u in
      rw (apart x xs k d (omega arith) (not-true (elemb (key x) (map key xs)) t.0)) (picked xs k d (omega arith) t.1)

  changed : (f : A → A) (xs : List A) (k : ℕ) (d : A) → k < length xs → distinctb (map key xs) ≡ true → change key (key (get_or xs k d)) f xs ≡ set xs k (f (get_or xs k d))
  unfolding change
  changed f [] k d h u = absurd (omega arith)
  changed f (x ∷ xs) zero d h u =
      let t = and_split (not (elemb (key x) (map key xs))) (distinctb (map key xs)) u in
      rw (eq-eqb (key x) (key x) refl, absent_change (key x) f xs (not-true (elemb (key x) (map key xs)) t.0)) refl
  changed f (x ∷ xs) (suc k) d h u =
      let t = and_split (not (elemb (key x) (map key xs))) (distinctb (map key xs)) u in
      rw (apart x xs k d (omega arith) (not-true (elemb (key x) (map key xs)) t.0), changed f xs k d (omega arith) t.1) refl

  module _ (xs : List A) (distinct : distinctb (map key xs) ≡ true) (i k : ℕ) (d : A) (within : k < length xs) (here : key (get_or xs k d) ≡ i) where
    -- the one element of that key
    pub pick_at : pick key i xs ≡ get_or xs k d ∷ []
    pick_at = ap (λ (j : ℕ). pick key j xs) (sym here) ∙ picked xs k d within distinct

    -- a change by key is a store at its place
    pub change_at : (f : A → A) → change key i f xs ≡ set xs k (f (get_or xs k d))
    change_at f = ap (λ (j : ℕ). change key j f xs) (sym here) ∙ changed f xs k d within distinct
