-- Theorems on specs/Stops.antt.
use Rattle.std.specs.Prelude.{◌≡◌, refl, Bool, cond, ◌&&◌, ℕ, ◌+◌, ◌≤◌, ◌<◌, leb, length, take, drop}
use Rattle.std.proofs.Common.{sym, ap, ◌∙◌, inl, inr, add-zero, arith, le-leb, leb-true}
use Rattle.std.proofs.Math.Path.{subst}
use Rattle.std.proofs.Math.Bool.{true, false}
use Rattle.std.proofs.lemmas.Bool.{false≢true}
use mathlib.Core.List.{List, [], ◌∷◌, ◌++◌, append-nil}
use Rattle.std.proofs.Math.Decide.{dec_le}
use Rattle.codec_forms.specs.Wire.{Ans, got, bad, and_then, Parser, pick, be, be_from, enc_many, enc_list, enc_opt, run, number, checked, up_to, chosen, optional, optional_by, many_from, counted, list_from}
use Rattle.codec_forms.specs.Lawful.{Lawful, Spans, span_left, span_right}
use Rattle.codec_forms.specs.Number.{be_length}
use Rattle.codec_forms.specs.Items.{checked_bad, mark, AllFrom}
use Rattle.codec_forms.proofs.Items.{checked_fails, checked_got, up_to_lawful}
use Rattle.archive_laws.specs.Items.{Item, bytes_of, plain, number_item, ruled, limited, items_optional, items_many, items_list}
use Rattle.archive_laws.specs.Stops.{Breaks, Stops, Placed, then_placed, last_placed, none_placed, as_placed}

-- items before a broken one
pub stops_here : (before : List Item) (x : Item) (after : List Item) (s : List ℕ) (at e : ℕ) → Spans s at e (bytes_of before) → Breaks x s e → Stops (before ++ (x ∷ after)) s at e
unfolding bytes_of Stops
stops_here [] x after s at e w b = let q : e ≡ at = w.ends ∙ add-zero at in inl (subst (Breaks x s) q b, sym q)
stops_here (y ∷ is) x after s at e w b =
    inr (span_left s at e y.bytes (bytes_of is) w, stops_here is x after s (at + length y.bytes) e (span_right s at e y.bytes (bytes_of is) w) b)

-- ---- one item
one_placed : {A : Type 0} {p : Parser A} (x : Item) → ((s : List ℕ) (at : ℕ) → Breaks x s at → p s at ≡ bad at) → Placed p (x ∷ []) x.bytes
unfolding bytes_of Stops
one_placed {A} {p} x h = record { whole = append-nil x.bytes; stops = λ s at k w t. go s at k t }
  where
    go : (s : List ℕ) (at k : ℕ) → Stops (x ∷ []) s at k → p s at ≡ bad k
    go s at k (inl b) = h s at b.0 ∙ ap bad b.1
    go s at k (inr t) = absurd t.1

not_le : (a b : ℕ) → b < a → leb a b ≡ false
not_le a b h = go (leb a b) refl
  where
    go : (x : Bool) → leb a b ≡ x → leb a b ≡ false
    go false e = e
    go true e = absurd (let z = leb-true a b e in omega arith)

run_short : (n : ℕ) (s : List ℕ) (at : ℕ) → length s < at + n → run n s at ≡ bad at
unfolding run
run_short n s at h = ap (λ (b : Bool). pick b (got (take n (drop at s)) (at + n)) (bad at)) (not_le (at + n) (length s) h)

run_long : (n : ℕ) (s : List ℕ) (at : ℕ) → at + n ≤ length s → run n s at ≡ got (take n (drop at s)) (at + n)
unfolding run
run_long n s at h = ap (λ (b : Bool). pick b (got (take n (drop at s)) (at + n)) (bad at)) (le-leb (at + n) (length s) h)

number_short : (w : ℕ) (s : List ℕ) (at : ℕ) → length s < at + w → number w s at ≡ bad at
unfolding number
number_short w s at h = ap (λ (r : Ans (List ℕ)). and_then r (λ l e. got (be_from 0 l) e)) (run_short w s at h)

number_long : (w : ℕ) (s : List ℕ) (at : ℕ) → at + w ≤ length s → number w s at ≡ got (be_from 0 (take w (drop at s))) (at + w)
unfolding number
number_long w s at h = ap (λ (r : Ans (List ℕ)). and_then r (λ l e. got (be_from 0 l) e)) (run_long w s at h)

pub run_placed : (n : ℕ) (l : List ℕ) → length l ≡ n → Placed (run n) (plain l ∷ []) l
run_placed n l e = one_placed (plain l) go
  where
    go : (s : List ℕ) (at : ℕ) → Breaks (plain l) s at → run n s at ≡ bad at
    go s at (inl c) = run_short n s at (omega (arith, c, e))
    go s at (inr c) = absurd (false≢true (sym c))

pub number_placed : (w n : ℕ) → Placed (number w) (number_item w n ∷ []) (be w n)
number_placed w n = one_placed (number_item w n) go
  where
    go : (s : List ℕ) (at : ℕ) → Breaks (number_item w n) s at → number w s at ≡ bad at
    go s at (inl c) = number_short w s at (omega (arith, c, be_length w n))
    go s at (inr c) = absurd (false≢true (sym c))

-- a number that fails the test is refused at its start, and so is one that is cut short
module _ (w n : ℕ) (test : ℕ → Bool) (s : List ℕ) (at : ℕ) where
  checked_short : length s < at + length (be w n) → checked test (number w) s at ≡ bad at
  checked_short c = checked_bad test (number w) s at (number_short w s at (omega (arith, c, be_length w n)))

  checked_broken : test (be_from 0 (take (length (be w n)) (drop at s))) ≡ false → checked test (number w) s at ≡ bad at
  checked_broken c = go (dec_le (at + w) (length s))
    where
      go : Dec (at + w ≤ length s) → checked test (number w) s at ≡ bad at
      go (yes h) = checked_fails test (number w) s at (number_long w s at h) (ap (λ (m : ℕ). test (be_from 0 (take m (drop at s)))) (sym (be_length w n)) ∙ c)
      go (no h) = checked_bad test (number w) s at (number_short w s at (omega arith))

pub ruled_placed : (w : ℕ) (test : ℕ → Bool) (n : ℕ) → Placed (checked test (number w)) (ruled w test n ∷ []) (be w n)
ruled_placed w test n = one_placed (ruled w test n) go
  where
    go : (s : List ℕ) (at : ℕ) → Breaks (ruled w test n) s at → checked test (number w) s at ≡ bad at
    go s at (inl c) = checked_short w n test s at c
    go s at (inr c) = checked_broken w n test s at c

pub limited_placed : (m n : ℕ) → Placed (up_to m) (limited m n ∷ []) (be 1 n)
unfolding up_to
limited_placed m n = ruled_placed 1 (λ k. leb k m) n

-- a kind that must pass a second test
pub kind_placed : (rule : ℕ → Bool) (n : ℕ) → Placed (checked rule (up_to 1)) (ruled 1 (λ k. leb k 1 && rule k) n ∷ []) (be 1 n)
unfolding up_to
kind_placed rule n = one_placed (ruled 1 (λ k. leb k 1 && rule k) n) go
  where
    small : ℕ → Bool
    small k = leb k 1

    test : (s : List ℕ) (at k : ℕ) → at + 1 ≤ length s → be_from 0 (take 1 (drop at s)) ≡ k → (leb k 1 && rule k) ≡ false → (x : Bool) → leb k 1 ≡ x → checked rule (checked small (number 1)) s at ≡ bad at
    test s at k h e c false q = checked_bad rule (checked small (number 1)) s at (checked_fails small (number 1) s at (number_long 1 s at h ∙ ap (λ (y : ℕ). got y (at + 1)) e) q)
    test s at k h e c true q =
        checked_fails rule (checked small (number 1)) s at (checked_got small (number 1) s at (number_long 1 s at h ∙ ap (λ (y : ℕ). got y (at + 1)) e) q)
        (ap (λ (y : Bool). y && rule k) (sym q) ∙ c)

    go : (s : List ℕ) (at : ℕ) → Breaks (ruled 1 (λ k. leb k 1 && rule k) n) s at → checked rule (checked small (number 1)) s at ≡ bad at
    go s at (inl c) = checked_bad rule (checked small (number 1)) s at (checked_short 1 n small s at c)
    go s at (inr c) = within (dec_le (at + 1) (length s))
      where
        within : Dec (at + 1 ≤ length s) → checked rule (checked small (number 1)) s at ≡ bad at
        within (yes h) = test s at (be_from 0 (take 1 (drop at s))) h refl (ap (λ (m : ℕ). leb (be_from 0 (take m (drop at s))) 1 && rule (be_from 0 (take m (drop at s)))) (sym (be_length 1 n)) ∙ c) (leb (be_from 0 (take 1 (drop at s))) 1) refl
        within (no h) = checked_bad rule (checked small (number 1)) s at (checked_bad small (number 1) s at (number_short 1 s at (omega arith)))

-- ---- optional parts and elements
abbrev Upto : ℕ → ℕ → Type 0
Upto m n = (s : List ℕ) (at e : ℕ) → Spans s at e (be 1 n) → up_to m s at ≡ got n e

upto_reads : (m n : ℕ) → m < 256 → n ≤ m → Upto m n
upto_reads m n small h s at e w = (up_to_lawful m small).reads s at e n h w

opt_bytes : (l : List ℕ) (b : Bool) → be 1 (mark b) ++ cond b l [] ≡ enc_opt b l
unfolding mark enc_opt
opt_bytes l false = append-nil (be 1 0)
opt_bytes l true = refl

mark_small : (b : Bool) → mark b ≤ 1
unfolding mark
mark_small false = omega arith
mark_small true = omega arith

-- an optional part that is there only where its mark says so
module _ {A : Type 0} (z : A) {p : Parser A} {js : List Item} {l : List ℕ} where
  chosen_placed : (b : Bool) → (b ≡ true → Placed p js l) → (k : ℕ) → k ≡ mark b → Placed (chosen z p k) (cond b js []) (cond b l [])
  unfolding chosen mark
  chosen_placed false x k e = subst (λ (n : ℕ). Placed (chosen z p n) [] []) (sym e) (none_placed z)
  chosen_placed true x k e = subst (λ (n : ℕ). Placed (chosen z p n) js l) (sym e) (x refl)

  pub optional_placed : (b : Bool) → (b ≡ true → Placed p js l) → Placed (optional z p) (items_optional b js) (enc_opt b l)
  unfolding optional
  optional_placed b x = as_placed (opt_bytes l b) (then_placed (mark b) (limited_placed 1 (mark b)) (upto_reads 1 (mark b) (omega arith) (mark_small b)) (chosen_placed b x))

  pub optional_by_placed : (rule : ℕ → Bool) (b : Bool) → rule (mark b) ≡ true → (b ≡ true → Placed p js l)
      → Placed (optional_by rule z p) (ruled 1 (λ k. leb k 1 && rule k) (mark b) ∷ cond b js []) (enc_opt b l)
  unfolding optional_by
  optional_by_placed rule b h x =
      as_placed (opt_bytes l b) (then_placed (mark b) (kind_placed rule (mark b)) (λ s at e w. checked_got rule (up_to 1) s at (upto_reads 1 (mark b) (omega arith) (mark_small b) s at e w) h) (chosen_placed b x))

module _ {A : Type 0} {G : List A → A → Type 0} {enc : A → List ℕ} {p : List A → Parser A} {items : List A → A → List Item}
    (law : (before : List A) → Lawful (G before) enc (p before)) (each : (before : List A) (a : A) → G before a → Placed (p before) (items before a) (enc a)) where
  many_placed : (before l : List A) → AllFrom G before l → Placed (many_from p before (length l)) (items_many items before l) (enc_many enc l)
  unfolding many_from items_many enc_many
  many_placed before [] g = none_placed []
  many_placed before (a ∷ l) g =
      then_placed a (each before a g.0) (λ s at e w. (law before).reads s at e a g.0 w)
      (λ b q. last_placed (λ r. b ∷ r) (many_placed (before ++ (b ∷ [])) l (subst (λ (c : A). AllFrom G (before ++ (c ∷ [])) l) (sym q) g.1)))

  pub list_placed : (n : ℕ) → n < 256 → (l : List A) → AllFrom G [] l × (length l ≤ n) → Placed (list_from n p) (items_list n items l) (enc_list enc l)
  unfolding list_from counted items_list enc_list
  list_placed n small l g =
      then_placed (length l) (limited_placed n (length l)) (upto_reads n (length l) small g.1)
      (λ k q. subst (λ (m : ℕ). Placed (many_from p [] m) (items_many items [] l) (enc_many enc l)) (sym q) (many_placed [] l g.0))
