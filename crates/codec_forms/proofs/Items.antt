-- Theorems on specs/Items.antt.
use Prim.Native.Nat.{ℕ, zero, suc, ◌+◌, ◌^◌, ◌≤◌, ◌<◌}
use Rattle.std.specs.Prelude.{◌≡◌, refl, Bool, true, false, length, take, leb}
use Rattle.std.proofs.Common.{sym, ◌∙◌, subst, arith, take-append-drop, length-take, length-drop, take_at, drop-drop, get_or-drop, le-leb, leb-true}
use Rattle.std.proofs.Math.Path.{ap}
use mathlib.Core.List.{List, [], ◌++◌, append-nil}
use Rattle.std.proofs.Math.ListN.{drop}
use Rattle.codec_forms.specs.Wire.{Ans, got, bad, and_then, Parser, pick, run, be, be_from, number, checked, up_to, chosen, optional_by, optional, counted, list_from, enc_list, enc_opt}
use Rattle.codec_forms.specs.Lawful.{Lawful, Spans, IsBytes, step, finish, recode, regood, bad_got}
use Rattle.codec_forms.specs.Number.{be_length, from_be, be_from_lem, from_bound, bytes_take, be_bytes}
use Rattle.codec_forms.specs.Items.{RunOf, mark, AllFrom, many_from_lawful}

-- the bytes of a part are bytes
span_bytes : (s : List ℕ) (at e : ℕ) (l : List ℕ) → IsBytes s → Spans s at e l → IsBytes l
span_bytes s at e l b x =
    let q : take (length l) (drop at s) ≡ l = ap (λ (u : List ℕ). take (length l) u) x.holds ∙ take_at l (drop e s) (length l) refl in
    let d : IsBytes (drop at s) = λ i. subst (λ (v : ℕ). v < 256) (sym (get_or-drop at s i 0)) (b (at + i)) in
    subst IsBytes q (bytes_take (length l) (drop at s) d)

run_reads : (n : ℕ) (s : List ℕ) (at e : ℕ) (l : List ℕ) → RunOf n l → Spans s at e l → run n s at ≡ got l e
unfolding run
run_reads n s at e l g x =
    let w : leb (at + n) (length s) ≡ true = le-leb (at + n) (length s) (omega (arith, x.ends, x.inside, g.long)) in
    let t : take n (drop at s) ≡ l = ap (λ (u : List ℕ). take n u) x.holds ∙ take_at l (drop e s) n g.long in
    let m : at + n ≡ e = omega (arith, x.ends, g.long) in
    rw w (cc)

run_exact : (n : ℕ) (s : List ℕ) (at e : ℕ) (l : List ℕ) → IsBytes s → (b : Bool) → leb (at + n) (length s) ≡ b → pick b (got (take n (drop at s)) (at + n)) (bad at) ≡ got l e → RunOf n l × Spans s at e l
run_exact n s at e l bs false q y = bad_got y
run_exact n s at e l bs true q y =
    let w : at + n ≤ length s = leb-true _ _ q in
    let t : take n (drop at s) ≡ l = cc in
    let m : at + n ≡ e = cc in
    let k : length l ≡ n = ap length (sym t) ∙ simp (length-take, length-drop) (omega arith) in
    let x : Spans s at e l = record {
      ends = omega (arith, k, m);
      inside = omega (arith, w, m);
      holds = sym (take-append-drop n (drop at s)) ∙ ap (λ (u : List ℕ). u ++ drop n (drop at s)) t ∙ ap (λ (u : List ℕ). l ++ u) (drop-drop n at s ∙ ap (λ (i : ℕ). drop i s) m);
    } in
    (record { long = k; bytes = span_bytes s at e l bs x }, x)

pub run_lawful : (n : ℕ) → Lawful (RunOf n) (λ l. l) (run n)
unfolding run
run_lawful n = record { reads = run_reads n; exact = λ s at e l b h y. run_exact n s at e l b (leb (at + n) (length s)) refl y }

-- ---- a number of w bytes
number_exact : (w : ℕ) (s : List ℕ) (at e n : ℕ) → IsBytes s → at ≤ length s → (r : Ans (List ℕ)) → run w s at ≡ r → and_then r (λ l m. got (be_from 0 l) m) ≡ got n e → (n < 256 ^ w) × Spans s at e (be w n)
number_exact w s at e n b h (bad m) q y = bad_got y
number_exact w s at e n b h (got l m) q y =
    let x = (run_lawful w).exact s at m l b h q in
    let c : IsBytes l = x.0.bytes in
    let v : be_from 0 l ≡ n = cc in
    let k : m ≡ e = cc in
    let t : l ≡ be w n = sym (be_from_lem w l x.0.long c) ∙ ap (be w) v in
    (subst (λ (z : ℕ). z < 256 ^ w) v (from_bound w l x.0.long c), subst (λ (z : ℕ). Spans s at z (be w n)) k (subst (λ (z : List ℕ). Spans s at m z) t x.1))

pub number_lawful : (w : ℕ) → Lawful (λ n. n < 256 ^ w) (be w) (number w)
unfolding number
number_lawful w = record {
  reads = λ s at e n g x.
      ap (λ (r : Ans (List ℕ)). and_then r (λ l m. got (be_from 0 l) m)) ((run_lawful w).reads s at e (be w n) (record { long = be_length w n; bytes = be_bytes w n }) x)
      ∙ ap (λ (v : ℕ). got v e) (from_be w n g);
  exact = λ s at e n b h y. number_exact w s at e n b h (run w s at) refl y;
}

-- ---- a rule on an item
module _ {A : Type 0} (test : A → Bool) (p : Parser A) (s : List ℕ) (at : ℕ) where
  pub checked_fails : {a : A} {e : ℕ} → p s at ≡ got a e → test a ≡ false → checked test p s at ≡ bad at
  unfolding checked
  checked_fails {a} {e} h q = rw h (ap (λ (b : Bool). pick b (got a e) (bad at)) q)

  pub checked_got : {a : A} {e : ℕ} → p s at ≡ got a e → test a ≡ true → checked test p s at ≡ got a e
  unfolding checked
  checked_got {a} {e} h q = rw h (ap (λ (b : Bool). pick b (got a e) (bad at)) q)

checked_exact : {A : Type 0} (test : A → Bool) {G : A → Type 0} {enc : A → List ℕ} {p : Parser A} → Lawful G enc p → (s : List ℕ) (at e : ℕ) (a : A) → IsBytes s → at ≤ length s → (r : Ans A) → p s at ≡ r → and_then r (λ x d. pick (test x) (got x d) (bad at)) ≡ got a e → (G a × (test a ≡ true)) × Spans s at e (enc a)
checked_exact test law s at e a b h (bad d) q y = bad_got y
checked_exact {A} test {G} {enc} {p} law s at e a b h (got x d) q y = go (test x) refl y
  where
    go : (t : Bool) → test x ≡ t → pick t (got x d) (bad at) ≡ got a e → (G a × (test a ≡ true)) × Spans s at e (enc a)
    go false w y = bad_got y
    go true w y =
        let u : x ≡ a = cc in
        let v : d ≡ e = cc in
        let g = law.exact s at d x b h q in
        ((subst G u g.0, ap test (sym u) ∙ w), subst (λ (m : ℕ). Spans s at m (enc a)) v (subst (λ (k : A). Spans s at d (enc k)) u g.1))

pub checked_lawful : {A : Type 0} (test : A → Bool) {G : A → Type 0} {enc : A → List ℕ} {p : Parser A} → Lawful G enc p → Lawful (λ a. G a × (test a ≡ true)) enc (checked test p)
unfolding checked
checked_lawful {A} test {G} {enc} {p} law = record {
  reads = λ s at e a g x. ap (λ (r : Ans A). and_then r (λ x d. pick (test x) (got x d) (bad at))) (law.reads s at e a g.0 x) ∙ ap (λ (t : Bool). pick t (got a e) (bad at)) g.1;
  exact = λ s at e a b h y. checked_exact test law s at e a b h (p s at) refl y;
}

-- ---- a count of at most m
pub up_to_lawful : (m : ℕ) → m < 256 → Lawful (λ n. n ≤ m) (be 1) (up_to m)
unfolding up_to
up_to_lawful m small =
    regood (λ n h. (lt n h, le-leb n m h)) (λ n h. leb-true n m h.1) (checked_lawful (λ n. leb n m) (number_lawful 1))
  where
    lt : (n : ℕ) → n ≤ m → n < 256 ^ 1
    lt n h = omega arith

after : Bool → List ℕ → List ℕ
after false l = []
after true l = l

opt_bytes : (b : Bool) (l : List ℕ) → be 1 (mark b) ++ after b l ≡ enc_opt b l
unfolding mark after enc_opt
opt_bytes false l = append-nil (be 1 0)
opt_bytes true l = refl

mark_small : (b : Bool) → mark b ≤ 1
unfolding mark
mark_small false = omega arith
mark_small true = omega arith

mark_false : (b : Bool) → mark b ≡ 0 → b ≡ false
unfolding mark
mark_false false h = refl
mark_false true h = absurd (omega arith)

mark_true : (b : Bool) → mark b ≡ 1 → b ≡ true
unfolding mark
mark_true false h = absurd (omega arith)
mark_true true h = refl

module _ {A : Type 0} (present : A → Bool) (G : A → Type 0) (z : A) {enc : A → List ℕ} {p : Parser A}
    (law : Lawful (λ a. G a × (present a ≡ true)) enc p) (none : G z × (present z ≡ false)) (only : (a : A) → G a → present a ≡ false → a ≡ z) where
  chosen_lawful : (k : ℕ) → k ≤ 1 → Lawful (λ a. G a × (mark (present a) ≡ k)) (λ a. after (present a) (enc a)) (chosen z p k)
  unfolding chosen after mark
  chosen_lawful zero h =
      recode (λ a. after (present a) (enc a)) (λ a x. ap (λ (b : Bool). after b (enc a)) (sym (mark_false (present a) x.1)))
      (finish z (none.0, ap mark none.1) (λ a x. only a x.0 (mark_false (present a) x.1)))
  chosen_lawful (suc zero) h =
      recode (λ a. after (present a) (enc a)) (λ a x. ap (λ (b : Bool). after b (enc a)) (sym (mark_true (present a) x.1)))
      (regood (λ a x. (x.0, mark_true (present a) x.1)) (λ a x. (x.0, ap mark x.1)) law)
  chosen_lawful (suc (suc k)) h = absurd (omega arith)

  pub optional_lawful : Lawful G (λ a. enc_opt (present a) (enc a)) (optional z p)
  unfolding optional
  optional_lawful =
      recode (λ a. enc_opt (present a) (enc a)) (λ a x. opt_bytes (present a) (enc a))
      (step (λ a. mark (present a)) (up_to_lawful 1 (omega arith)) (λ a x. mark_small (present a)) chosen_lawful)

  -- the same with a rule on the mark
  pub optional_by_lawful : (rule : ℕ → Bool) → Lawful (λ a. G a × (rule (mark (present a)) ≡ true)) (λ a. enc_opt (present a) (enc a)) (optional_by rule z p)
  unfolding optional_by
  optional_by_lawful rule =
      recode (λ a. enc_opt (present a) (enc a)) (λ a x. opt_bytes (present a) (enc a))
      (step (λ a. mark (present a)) (checked_lawful rule (up_to_lawful 1 (omega arith))) (λ a x. (mark_small (present a), x.1)) (λ k gk.
      regood (λ a x. (x.0.0, x.1)) (λ a x. ((x.0, ap rule x.1 ∙ gk.1), x.1)) (chosen_lawful k gk.0)))

-- ---- a count, and what it counts
pub counted_lawful : {A : Type 0} (n : ℕ) (size : A → ℕ) (G : A → Type 0) {enc : A → List ℕ} {body : ℕ → Parser A} → n < 256 → ((k : ℕ) → Lawful (λ a. G a × (size a ≡ k)) enc (body k)) → Lawful (λ a. G a × (size a ≤ n)) (λ a. be 1 (size a) ++ enc a) (counted n body)
unfolding counted
counted_lawful {A} n size G {enc} {body} small law =
    step size (up_to_lawful n small) (λ a x. x.1) (λ k hk.
    regood (λ a x. (x.0.0, x.1)) (λ a x. ((x.0, subst (λ (m : ℕ). m ≤ n) (sym x.1) hk), x.1)) (law k))

pub list_from_lawful : {A : Type 0} (n : ℕ) (z : A) (G : List A → A → Type 0) {enc : A → List ℕ} {p : List A → Parser A} → n < 256 → ((before : List A) → Lawful (G before) enc (p before)) → Lawful (λ l. AllFrom G [] l × (length l ≤ n)) (enc_list enc) (list_from n p)
unfolding list_from enc_list
list_from_lawful n z G small law = counted_lawful n length (AllFrom G []) small (many_from_lawful z G law [])
