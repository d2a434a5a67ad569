-- Each part is lawful: byte runs, numbers, rules on items, counts, kinds, optional parts, elements after a count.
use Prim.Native.Nat.{ℕ, zero, suc, ◌≤◌}
use Rattle.std.specs.Prelude.{◌≡◌, refl, Bool, true, false, length, leb}
use Rattle.std.proofs.Common.{sym, ◌∙◌, subst, arith, le-leb, leb-true}
use Rattle.std.proofs.Math.Path.{ap}
use mathlib.Core.List.{List, [], ◌∷◌, ◌++◌, append-nil}
use Rattle.std.proofs.Math.ListN.{get_or, drop}
use Rattle.codec_forms.specs.Wire.{got, bad, Parser, pick, checked, mapped, many_from, end, enc_many}
use Rattle.codec_forms.specs.Lawful.{Lawful, IsBytes, step, finish, recode, bad_got}

-- ---- a byte run
-- n bytes
pub record RunOf (n : ℕ) (l : List ℕ) : Type 0 where
  pub long : length l ≡ n
  pub bytes : IsBytes l

-- ---- a rule on an item
module _ {A : Type 0} (test : A → Bool) (p : Parser A) (s : List ℕ) (at : ℕ) where
  pub checked_bad : {e : ℕ} → p s at ≡ bad e → checked test p s at ≡ bad e
  unfolding checked
  checked_bad h = rw h

-- ---- a value in another form: f and g undo each other on good values
pub mapped_lawful : {A B : Type 0} (f : A → B) (g : B → A) {GA : A → Type 0} {GB : B → Type 0} {enc : A → List ℕ} {p : Parser A} → Lawful GA enc p → ((b : B) → GB b → GA (g b) × (f (g b) ≡ b)) → ((a : A) → GA a → GB (f a) × (g (f a) ≡ a)) → Lawful GB (λ b. enc (g b)) (mapped f p)
unfolding mapped
mapped_lawful f g {GA} {GB} {enc} law back forth =
    recode (λ b. enc (g b)) (λ b x. append-nil (enc (g b)))
    (step g law (λ b x. (back b x).0) (λ a ga.
    finish (f a) ((forth a ga).0, (forth a ga).1) (λ b x. sym (back b x.0).1 ∙ ap f x.1)))

-- ---- an optional part: `present` says whether a value is there, and only z is not
unfoldable pub mark : Bool → ℕ
mark false = 0
mark true = 1

-- ---- elements that go by those before them
abbrev pub AllFrom : {A : Type 0} → (List A → A → Type 0) → List A → List A → Type 0
AllFrom G before [] = Unit {0}
AllFrom G before (a ∷ l) = G before a × AllFrom G (before ++ (a ∷ [])) l

module _ {A : Type 0} (z : A) (G : List A → A → Type 0) {enc : A → List ℕ} {p : List A → Parser A} (law : (before : List A) → Lawful (G before) enc (p before)) where
  head_good : (before : List A) (n : ℕ) (l : List A) → AllFrom G before l × (length l ≡ suc n) → G before (get_or l 0 z)
  head_good before n [] h = absurd (omega (arith, h.1))
  head_good before n (a ∷ l) h = h.0.0

  tail_good : (before : List A) (a : A) (n : ℕ) (l : List A) → AllFrom G before l × (length l ≡ suc n) → get_or l 0 z ≡ a → AllFrom G (before ++ (a ∷ [])) (drop 1 l) × (length (drop 1 l) ≡ n)
  tail_good before a n [] h e = absurd (omega (arith, h.1))
  tail_good before a n (x ∷ l) h e = (subst (λ (y : A). AllFrom G (before ++ (y ∷ [])) l) e h.0.1, omega (arith, h.1))

  cons_eta : (l : List A) (n : ℕ) → length l ≡ suc n → l ≡ get_or l 0 z ∷ drop 1 l
  cons_eta [] n h = absurd (omega arith)
  cons_eta (a ∷ l) n h = refl

  many_enc : (n : ℕ) (l : List A) → length l ≡ suc n → enc (get_or l 0 z) ++ (enc_many enc (drop 1 l) ++ []) ≡ enc_many enc l
  unfolding enc_many
  many_enc n [] h = absurd (omega arith)
  many_enc n (a ∷ l) h = ap (λ (t : List ℕ). enc a ++ t) (append-nil (enc_many enc l))

  nil_enc : (l : List A) → length l ≡ 0 → (l ≡ []) × ([] ≡ enc_many enc l)
  unfolding enc_many
  nil_enc [] h = (refl, refl)
  nil_enc (x ∷ l) h = absurd (omega arith)

  pub many_from_lawful : (before : List A) (n : ℕ) → Lawful (λ l. AllFrom G before l × (length l ≡ n)) (enc_many enc) (many_from p before n)
  unfolding many_from
  many_from_lawful before zero =
      recode (enc_many enc) (λ l h. (nil_enc l h.1).1) (finish [] (tt, refl) (λ l h. (nil_enc l h.1).0))
  many_from_lawful before (suc n) =
      recode (enc_many enc) (λ l h. many_enc n l h.1)
      (step (λ l. get_or l 0 z) (law before) (λ l h. head_good before n l h) (λ a ga.
      step (λ l. drop 1 l) (many_from_lawful (before ++ (a ∷ [])) n) (λ l h. tail_good before a n l h.0 h.1) (λ l gl.
      finish (a ∷ l) ((((ga, gl.0), ap suc gl.1), refl), refl) (λ c h. cons_eta c n h.0.0.1 ∙ cc))))

-- ---- the end of the bytes
end_exact : {A : Type 0} (a c : A) (s : List ℕ) (at e : ℕ) → (b : Bool) → leb (length s) at ≡ b → pick b (got a at) (bad at) ≡ got c e → (a ≡ c) × (at ≡ e) × (length s ≤ at)
end_exact a c s at e false q y = bad_got y
end_exact a c s at e true q y = (cc, cc, leb-true _ _ q)

-- what is read to the end is the whole
pub end_reads : {A : Type 0} (a : A) (s : List ℕ) (at : ℕ) → length s ≤ at → end a s at ≡ got a at
unfolding end
end_reads a s at h = ap (λ (b : Bool). pick b (got a at) (bad at)) (le-leb (length s) at h)

pub end_got : {A : Type 0} (a c : A) (s : List ℕ) (at e : ℕ) → end a s at ≡ got c e → (a ≡ c) × (at ≡ e) × (length s ≤ at)
unfolding end
end_got a c s at e y = end_exact a c s at e (leb (length s) at) refl y
