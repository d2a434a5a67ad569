-- A parser and an encoder that belong together: the parser accepts exactly the encodings of good values. Laws for each way to put parsers together.
use Rattle.std.specs.Prelude.{ℕ, ◌+◌, ◌≤◌, ◌<◌, ◌≡◌, refl, List, [], ◌++◌, length, get_or, drop}
use Rattle.std.proofs.Common.{sym, ap, ◌∙◌, subst, append_assoc, add-zero, arith, length-append, drop_at, drop-drop}
use Rattle.codec_forms.specs.Wire.{Ans, got, bad, and_then, Parser, ◌>>=◌, done}

-- the bytes of s from at up to e are l
pub record Spans (s : List ℕ) (at e : ℕ) (l : List ℕ) : Type 0 where
  pub ends : e ≡ at + length l
  pub inside : e ≤ length s
  pub holds : drop at s ≡ l ++ drop e s

abbrev pub IsBytes : List ℕ → Type 0
IsBytes s = (i : ℕ) → get_or s i 0 < 256

pub record Lawful {A : Type 0} (Good : A → Type 0) (enc : A → List ℕ) (p : Parser A) : Type 0 where
  pub reads : (s : List ℕ) (at e : ℕ) (a : A) → Good a → Spans s at e (enc a) → p s at ≡ got a e
  pub exact : (s : List ℕ) (at e : ℕ) (a : A) → IsBytes s → at ≤ length s → p s at ≡ got a e → Good a × Spans s at e (enc a)

-- ---- spans
pub span_join : (s : List ℕ) (at m e : ℕ) (l k : List ℕ) → Spans s at m l → Spans s m e k → Spans s at e (l ++ k)
span_join s at m e l k x y = record {
  ends = simp length-append (omega arith);
  inside = y.inside;
  holds = x.holds ∙ ap (λ (t : List ℕ). l ++ t) y.holds ∙ sym (append_assoc l k (drop e s));
}

-- what follows the first part
span_mid : (s : List ℕ) (at e : ℕ) (l k : List ℕ) → Spans s at e (l ++ k) → drop (at + length l) s ≡ k ++ drop e s
span_mid s at e l k x =
    sym (drop-drop (length l) at s)
    ∙ ap (λ (t : List ℕ). drop (length l) t) (x.holds ∙ append_assoc l k (drop e s))
    ∙ drop_at l (k ++ drop e s) (length l) refl

pub span_left : (s : List ℕ) (at e : ℕ) (l k : List ℕ) → Spans s at e (l ++ k) → Spans s at (at + length l) l
span_left s at e l k x = record {
  ends = refl;
  inside = omega (arith, x.ends, x.inside, length-append l k);
  holds = x.holds ∙ append_assoc l k (drop e s) ∙ ap (λ (t : List ℕ). l ++ t) (sym (span_mid s at e l k x));
}

pub span_right : (s : List ℕ) (at e : ℕ) (l k : List ℕ) → Spans s at e (l ++ k) → Spans s (at + length l) e k
span_right s at e l k x = record {
  ends = omega (arith, x.ends, length-append l k);
  inside = x.inside;
  holds = span_mid s at e l k x;
}

pub span_none : (s : List ℕ) (at : ℕ) → at ≤ length s → Spans s at at []
span_none s at h = record { ends = sym (add-zero at); inside = h; holds = refl }

-- ---- laws for each way to put parsers together
-- a bad answer is no good one
pub bad_got : {A : Type 0} {X : Type 0} {a : A} {m e : ℕ} → ◌≡◌ {A = Ans A} (bad m) (got a e) → X
bad_got h = absurd (let z : ◌≡◌ {A = ℕ} 0 1 = cc in omega arith)

module _ {A C : Type 0} {GA : A → Type 0} {enc_a : A → List ℕ} {p : Parser A} {G : C → Type 0} {enc_c : C → List ℕ} {k : A → Parser C} (π : C → A)
    (first : Lawful GA enc_a p)
    (part : (c : C) → G c → GA (π c))
    (rest : (a : A) → GA a → Lawful (λ c. G c × (π c ≡ a)) enc_c (k a)) where
  step_reads : (s : List ℕ) (at e : ℕ) (c : C) → G c → Spans s at e (enc_a (π c) ++ enc_c c) → (p >>= k) s at ≡ got c e
  step_reads s at e c g x =
      ap (λ (r : Ans A). and_then r (λ a m. k a s m)) (first.reads s at (at + length (enc_a (π c))) (π c) (part c g) (span_left s at e (enc_a (π c)) (enc_c c) x))
      ∙ (rest (π c) (part c g)).reads s (at + length (enc_a (π c))) e c (g, refl) (span_right s at e (enc_a (π c)) (enc_c c) x)

  step_exact : (s : List ℕ) (at e : ℕ) (c : C) → IsBytes s → at ≤ length s → (r : Ans A) → p s at ≡ r → and_then r (λ a m. k a s m) ≡ got c e → G c × Spans s at e (enc_a (π c) ++ enc_c c)
  step_exact s at e c b h (bad m) q y = bad_got y
  step_exact s at e c b h (got a m) q y =
      let x = first.exact s at m a b h q in
      let z = (rest a x.0).exact s m e c b x.1.inside y in
      (z.0.0, span_join s at m e (enc_a (π c)) (enc_c c) (subst (λ (v : A). Spans s at m (enc_a v)) (sym z.0.1) x.1) z.1)

  -- one parser, and then one that may go by its value
  pub step : Lawful G (λ c. enc_a (π c) ++ enc_c c) (p >>= k)
  step = record { reads = step_reads; exact = λ s at e c b h y. step_exact s at e c b h (p s at) refl y }

-- a value is made
pub finish : {C : Type 0} {G : C → Type 0} (c₀ : C) → G c₀ → ((c : C) → G c → c ≡ c₀) → Lawful G (λ c. []) (done c₀)
finish {C} {G} c₀ g only = record {
  reads = λ s at e c gc x. ap₂' (sym (only c gc)) (sym (x.ends ∙ add-zero at));
  exact = λ s at e c b h y.
      let q : c₀ ≡ c = cc in
      let m : at ≡ e = cc in
      (subst G q g, subst (λ (n : ℕ). Spans s at n []) m (span_none s at h));
}
  where
    ap₂' : {c d : C} {m e : ℕ} → c ≡ d → m ≡ e → got c m ≡ got d e
    ap₂' u v = cc

-- the same parser, with another way to say its bytes or its values
pub recode : {A : Type 0} {G : A → Type 0} {enc : A → List ℕ} {p : Parser A} (enc' : A → List ℕ) → ((a : A) → G a → enc a ≡ enc' a) → Lawful G enc p → Lawful G enc' p
recode enc' same l = record {
  reads = λ s at e a g x. l.reads s at e a g (subst (λ (t : List ℕ). Spans s at e t) (sym (same a g)) x);
  exact = λ s at e a b h y.
      let x = l.exact s at e a b h y in
      (x.0, subst (λ (t : List ℕ). Spans s at e t) (same a x.0) x.1);
}

pub regood : {A : Type 0} {G : A → Type 0} {enc : A → List ℕ} {p : Parser A} {G' : A → Type 0} → ((a : A) → G' a → G a) → ((a : A) → G a → G' a) → Lawful G enc p → Lawful G' enc p
regood to from l = record {
  reads = λ s at e a g x. l.reads s at e a (to a g) x;
  exact = λ s at e a b h y.
      let x = l.exact s at e a b h y in
      (from a x.0, x.1);
}
