-- The rules between items: what each element must keep towards those before it makes up the rule of the whole list.
use Rattle.std.specs.Prelude.{◌≡◌, refl, Bool, true, false, cond, not, ◌||◌, List, [], ◌∷◌, ◌++◌, map, ℕ, eqb, ltb}
use Rattle.std.proofs.Common.{sym, ap, ◌∙◌, subst, append-nil, append_assoc}
use Rattle.std.proofs.lemmas.List.{map-append}
use Rattle.std.proofs.lemmas.Bool.{not-true}
use Rattle.base_lists.specs.Lists.{elemb, distinctb, risingb}
use Rattle.std.specs.List.{list_all, flat_map}
use Rattle.base_lists.specs.Laws.{and_split, and_both, or-false, all_snoc, flat_append}
use Rattle.base_lists.specs.Sub.{Sub, sub_all, sub_none, sub_append, distinct_sub, all_sub, eqb_sym, distinct_snoc}
use Rattle.codec_forms.specs.Items.{AllFrom}
use Rattle.book.specs.Sound.{attempt_token, tokens_of}
use Rattle.book.specs.declared.OptionalAttempt.{OptionalAttempt}
use Rattle.book.specs.declared.SubmittedTx.{SubmittedTx}
use Rattle.archive_form.specs.Parse.{fresh_token, above}

-- ---- a rule D of lists, and the rule C of an element after those before it
module _ {A : Type 0} (D : List A → Type 0) (C : List A → A → Type 0) where
  pub whole_from : ((before : List A) (x : A) → D before → C before x → D (before ++ (x ∷ []))) → (before xs : List A) → D before → AllFrom C before xs → D (before ++ xs)
  whole_from grow before [] d h = subst D (sym (append-nil before)) d
  whole_from grow before (x ∷ xs) d h = subst D (append_assoc before (x ∷ []) xs) (whole_from grow (before ++ (x ∷ [])) xs (grow before x d h.0) h.1)

  pub from_whole : ((xs ys : List A) → D (xs ++ ys) → D xs) → ((before : List A) (x : A) → D (before ++ (x ∷ [])) → C before x) → (before xs : List A) → D (before ++ xs) → AllFrom C before xs
  from_whole start last before [] d = tt
  from_whole start last before (x ∷ xs) d =
      let e : D ((before ++ (x ∷ [])) ++ xs) = subst D (sym (append_assoc before (x ∷ []) xs)) d in
      (last before x (start (before ++ (x ∷ [])) xs e), from_whole start last (before ++ (x ∷ [])) xs e)

module _ {A : Type 0} (P Q : List A → A → Type 0) where
  pub from_both : (before xs : List A) → AllFrom P before xs → AllFrom Q before xs → AllFrom (λ b x. P b x × Q b x) before xs
  from_both before [] h k = tt
  from_both before (x ∷ xs) h k = ((h.0, k.0), from_both (before ++ (x ∷ [])) xs h.1 k.1)

  pub from_map : ((b : List A) (x : A) → P b x → Q b x) → (before xs : List A) → AllFrom P before xs → AllFrom Q before xs
  from_map f before [] h = tt
  from_map f before (x ∷ xs) h = (f before x h.0, from_map f (before ++ (x ∷ [])) xs h.1)

-- ---- no number twice
or_both : {a b : Bool} → a ≡ false → b ≡ false → (a || b) ≡ false
or_both {a} {b} p q = ap (λ (x : Bool). x || b) p ∙ q

elem_last : (x y : ℕ) (xs : List ℕ) → elemb y (xs ++ (x ∷ [])) ≡ false → eqb x y ≡ false
elem_last x y [] h = (or-false (eqb x y) false h).0
elem_last x y (z ∷ xs) h = elem_last x y xs (or-false (eqb z y) (elemb y (xs ++ (x ∷ []))) h).1

pub distinct_grow : (xs : List ℕ) (x : ℕ) → distinctb xs ≡ true → not (elemb x xs) ≡ true → distinctb (xs ++ (x ∷ [])) ≡ true
distinct_grow xs x h n = distinct_snoc xs x h (not-true (elemb x xs) n)

pub distinct_last : (xs : List ℕ) (x : ℕ) → distinctb (xs ++ (x ∷ [])) ≡ true → not (elemb x xs) ≡ true
distinct_last xs x h = ap not (go xs h)
  where
    go : (ys : List ℕ) → distinctb (ys ++ (x ∷ [])) ≡ true → elemb x ys ≡ false
    go [] h = refl
    go (y ∷ ys) h =
        let t = and_split (not (elemb y (ys ++ (x ∷ [])))) (distinctb (ys ++ (x ∷ []))) h in
        or_both (eqb_sym y x (elem_last x y ys (not-true (elemb y (ys ++ (x ∷ []))) t.0))) (go ys t.1)

start_sub : {A : Type 0} (xs ys : List A) → Sub xs (xs ++ ys)
start_sub {A} xs ys = subst (λ (l : List A). Sub l (xs ++ ys)) (append-nil xs) (sub_append (sub_all xs) (sub_none ys))

pub distinct_start : (xs ys : List ℕ) → distinctb (xs ++ ys) ≡ true → distinctb xs ≡ true
distinct_start xs ys h = distinct_sub (start_sub xs ys) h

-- ---- the ids of a list
module _ {A : Type 0} (f : A → ℕ) where
  pub keys_grow : (before : List A) (x : A) → distinctb (map f before) ≡ true → not (elemb (f x) (map f before)) ≡ true → distinctb (map f (before ++ (x ∷ []))) ≡ true
  keys_grow before x d n = ap distinctb (map-append f before (x ∷ [])) ∙ distinct_grow (map f before) (f x) d n

  pub keys_last : (before : List A) (x : A) → distinctb (map f (before ++ (x ∷ []))) ≡ true → not (elemb (f x) (map f before)) ≡ true
  keys_last before x d = distinct_last (map f before) (f x) (ap distinctb (sym (map-append f before (x ∷ []))) ∙ d)

  pub keys_start : (xs ys : List A) → distinctb (map f (xs ++ ys)) ≡ true → distinctb (map f xs) ≡ true
  keys_start xs ys d = distinct_start (map f xs) (map f ys) (ap distinctb (sym (map-append f xs ys)) ∙ d)

-- ---- slot tokens: each once, and all below the next token
pub record Held (next : ℕ) (held : List ℕ) : Type 0 where
  pub once : distinctb held ≡ true
  pub below : list_all (λ t. ltb t next) held ≡ true

all_last : (p : ℕ → Bool) (xs : List ℕ) (x : ℕ) → list_all p (xs ++ (x ∷ [])) ≡ true → p x ≡ true
all_last p [] x h = (and_split (p x) true h).0
all_last p (y ∷ xs) x h = all_last p xs x (and_split (p y) (list_all p (xs ++ (x ∷ []))) h).1

held_start : (next : ℕ) (xs ys : List ℕ) → Held next (xs ++ ys) → Held next xs
held_start next xs ys h = record { once = distinct_start xs ys h.once; below = all_sub (λ t. ltb t next) (start_sub xs ys) h.below }

-- one slot more, filled or not
held_grow : (next : ℕ) (held : List ℕ) (t : ℕ) (p : Bool) → Held next held → list_all (fresh_token next held) (cond p (t ∷ []) []) ≡ true → Held next (held ++ cond p (t ∷ []) [])
held_grow next held t false h k = subst (Held next) (sym (append-nil held)) h
held_grow next held t true h k =
    let f = and_split (ltb t next) (not (elemb t held)) (and_split (fresh_token next held t) true k).0 in
    record { once = distinct_grow held t h.once f.1; below = all_snoc (λ x. ltb x next) held t h.below f.0 }

held_last : (next : ℕ) (held : List ℕ) (t : ℕ) (p : Bool) → Held next (held ++ cond p (t ∷ []) []) → list_all (fresh_token next held) (cond p (t ∷ []) []) ≡ true
held_last next held t false h = refl
held_last next held t true h = and_both (and_both (all_last (λ x. ltb x next) held t h.below) (distinct_last held t h.once)) refl

abbrev live : SubmittedTx → OptionalAttempt
live t = t.slots.active_attempt

abbrev aside : SubmittedTx → OptionalAttempt
aside t = t.slots.completed_attempt

-- the two slots of one submission more
tokens_snoc : (before : List SubmittedTx) (t : SubmittedTx) → flat_map tokens_of (before ++ (t ∷ [])) ≡ (flat_map tokens_of before ++ attempt_token (live t)) ++ attempt_token (aside t)
tokens_snoc before t =
    flat_append tokens_of before (t ∷ [])
    ∙ ap (λ (l : List ℕ). flat_map tokens_of before ++ l) (append-nil (tokens_of t))
    ∙ sym (append_assoc (flat_map tokens_of before) (attempt_token (live t)) (attempt_token (aside t)))

abbrev pub FreshSlots : ℕ → List SubmittedTx → SubmittedTx → Type 0
FreshSlots next before t =
    (list_all (fresh_token next (flat_map tokens_of before)) (attempt_token (live t)) ≡ true)
    × (list_all (fresh_token next (flat_map tokens_of before ++ attempt_token (live t))) (attempt_token (aside t)) ≡ true)

pub slots_grow : (next : ℕ) (before : List SubmittedTx) (t : SubmittedTx) → Held next (flat_map tokens_of before) → FreshSlots next before t → Held next (flat_map tokens_of (before ++ (t ∷ [])))
slots_grow next before t h f =
    let a = held_grow next (flat_map tokens_of before) (live t).attempt.token.0 (live t).present h f.0 in
    subst (Held next) (sym (tokens_snoc before t)) (held_grow next (flat_map tokens_of before ++ attempt_token (live t)) (aside t).attempt.token.0 (aside t).present a f.1)

pub slots_last : (next : ℕ) (before : List SubmittedTx) (t : SubmittedTx) → Held next (flat_map tokens_of (before ++ (t ∷ []))) → FreshSlots next before t
slots_last next before t h =
    let h' = subst (Held next) (tokens_snoc before t) h in (
      held_last next (flat_map tokens_of before) (live t).attempt.token.0 (live t).present (held_start next (flat_map tokens_of before ++ attempt_token (live t)) (attempt_token (aside t)) h'),
      held_last next (flat_map tokens_of before ++ attempt_token (live t)) (aside t).attempt.token.0 (aside t).present h',
    )

pub slots_start : (next : ℕ) (xs ys : List SubmittedTx) → Held next (flat_map tokens_of (xs ++ ys)) → Held next (flat_map tokens_of xs)
slots_start next xs ys h = held_start next (flat_map tokens_of xs) (flat_map tokens_of ys) (subst (Held next) (flat_append tokens_of xs ys) h)

-- ---- rising numbers
pub rising_grow : (xs : List ℕ) (x : ℕ) → risingb xs ≡ true → above xs x ≡ true → risingb (xs ++ (x ∷ [])) ≡ true
rising_grow [] x h k = refl
rising_grow (y ∷ []) x h k = and_both k refl
rising_grow (y ∷ z ∷ ys) x h k = let t = and_split (ltb y z) (risingb (z ∷ ys)) h in and_both t.0 (rising_grow (z ∷ ys) x t.1 k)

pub rising_last : (xs : List ℕ) (x : ℕ) → risingb (xs ++ (x ∷ [])) ≡ true → above xs x ≡ true
rising_last [] x h = refl
rising_last (y ∷ []) x h = (and_split (ltb y x) true h).0
rising_last (y ∷ z ∷ ys) x h = rising_last (z ∷ ys) x (and_split (ltb y z) (risingb (z ∷ (ys ++ (x ∷ [])))) h).1

pub rising_start : (xs ys : List ℕ) → risingb (xs ++ ys) ≡ true → risingb xs ≡ true
rising_start [] ys h = refl
rising_start (x ∷ []) ys h = refl
rising_start (x ∷ z ∷ xs) ys h = let t = and_split (ltb x z) (risingb (z ∷ (xs ++ ys))) h in and_both t.0 (rising_start (z ∷ xs) ys t.1)
