-- Where a parser refuses: never before it starts nor past the end, and what it found before a place hangs on the bytes before that place alone.
use Rattle.std.specs.Prelude.{ℕ, zero, suc, ◌≤◌, ◌≡◌, Bool, true, false, List, [], ◌∷◌, ◌++◌, length, take, leb}
use Rattle.std.proofs.Math.Path.{refl, ap}
use Rattle.std.proofs.Common.{sym, ◌∙◌, subst, length-take, take-take}
use Rattle.std.proofs.Math.Decide.{dec_le}
use native.Mathlib.Omega.{arith}
use Rattle.codec_forms.specs.Wire.{Ans, got, bad, and_then, Parser, ◌>>=◌, done, pick, mapped, many_from, end}
use Rattle.codec_forms.specs.Lawful.{bad_got}

pub record Steady {A : Type 0} (p : Parser A) : Type 0 where
  -- a value ends behind its start and inside the bytes
  pub ahead : (s : List ℕ) (at e : ℕ) (a : A) → at ≤ length s → p s at ≡ got a e → (at ≤ e) × (e ≤ length s)
  -- a refusal's place is not before the start, and not past the end
  pub place : (s : List ℕ) (at k : ℕ) → at ≤ length s → p s at ≡ bad k → (at ≤ k) × (k ≤ length s)
  -- other bytes with the same start give the same value
  pub same : (s t : List ℕ) (at e : ℕ) (a : A) → at ≤ length s → p s at ≡ got a e → take e t ≡ take e s → p t at ≡ got a e
  -- other bytes with the same start are not refused earlier
  pub first : (s t : List ℕ) (at k j : ℕ) → at ≤ length s → p s at ≡ bad k → take k t ≡ take k s → p t at ≡ bad j → k ≤ j

pub got_same : {A : Type 0} {a b : A} {m e : ℕ} → ◌≡◌ {A = Ans A} (got a m) (got b e) → (a ≡ b) × (m ≡ e)
got_same h = (cc, cc)

pub bad_same : {A : Type 0} {m e : ℕ} → ◌≡◌ {A = Ans A} (bad m) (bad e) → m ≡ e
bad_same h = cc

pub got_bad : {A : Type 0} {X : Type 0} {a : A} {m e : ℕ} → ◌≡◌ {A = Ans A} (got a m) (bad e) → X
got_bad h = bad_got (sym h)

-- the same start, shorter
pub shorter : (s t : List ℕ) (m k : ℕ) → m ≤ k → take k t ≡ take k s → take m t ≡ take m s
shorter s t m k h e = sym (take-take m k t h) ∙ ap (λ (l : List ℕ). take m l) e ∙ take-take m k s h

-- bytes with the same start are as long at least
pub as_long : (s t : List ℕ) (k : ℕ) → k ≤ length s → take k t ≡ take k s → k ≤ length t
as_long s t k h e = let l : length (take k t) ≡ length (take k s) = ap length e in omega (arith, length-take k t, length-take k s)

-- ---- one parser after another
module _ {A B : Type 0} {p : Parser A} {k : A → Parser B} (sp : Steady p) where
  module _ (sk : (a : A) → Steady (k a)) where
    bind_ahead : (s : List ℕ) (at e : ℕ) (b : B) → at ≤ length s → (r : Ans A) → p s at ≡ r → and_then r (λ a m. k a s m) ≡ got b e → (at ≤ e) × (e ≤ length s)
    bind_ahead s at e b h (bad m) q y = bad_got y
    bind_ahead s at e b h (got a m) q y =
        let x = sp.ahead s at m a h q in
        let z = (sk a).ahead s m e b x.1 y in
        (omega (arith, x.0, z.0), z.1)

    bind_same : (s t : List ℕ) (at e : ℕ) (b : B) → at ≤ length s → (r : Ans A) → p s at ≡ r → and_then r (λ a m. k a s m) ≡ got b e → take e t ≡ take e s → (p >>= k) t at ≡ got b e
    bind_same s t at e b h (bad m) q y w = bad_got y
    bind_same s t at e b h (got a m) q y w =
        let x = sp.ahead s at m a h q in
        let z = (sk a).ahead s m e b x.1 y in
        ap (λ (r : Ans A). and_then r (λ a m. k a t m)) (sp.same s t at m a h q (shorter s t m e z.0 w)) ∙ (sk a).same s t m e b x.1 y w

  module _ (ahead' : (a : A) (s : List ℕ) (at j : ℕ) → at ≤ length s → k a s at ≡ bad j → (at ≤ j) × (j ≤ length s)) (first' : (a : A) (s t : List ℕ) (at k₁ j : ℕ) → at ≤ length s → k a s at ≡ bad k₁ → take k₁ t ≡ take k₁ s → k a t at ≡ bad j → k₁ ≤ j) where
    bind_place : (s : List ℕ) (at j : ℕ) → at ≤ length s → (r : Ans A) → p s at ≡ r → and_then r (λ a m. k a s m) ≡ bad j → (at ≤ j) × (j ≤ length s)
    bind_place s at j h (bad m) q y = subst (λ (n : ℕ). (at ≤ n) × (n ≤ length s)) (bad_same y) (sp.place s at m h q)
    bind_place s at j h (got a m) q y =
        let x = sp.ahead s at m a h q in
        let z = ahead' a s m j x.1 y in
        (omega (arith, x.0, z.0), z.1)

    -- where the first parser refuses s at n, it does not end before n on t
    after_bad : (s t : List ℕ) (at n m : ℕ) (a : A) → at ≤ length s → p s at ≡ bad n → take n t ≡ take n s → p t at ≡ got a m → n ≤ m
    after_bad s t at n m a h q w y = go (dec_le n m)
      where
        go : Dec (n ≤ m) → n ≤ m
        go (yes z) = z
        go (no z) =
            let c = sp.place s at n h q in
            let l = as_long s t n c.1 w in
            got_bad (sym (sp.same t s at m a (omega (arith, c.0, l)) y (sym (shorter s t m n (omega arith) w))) ∙ q)

    bind_first : (s t : List ℕ) (at n j : ℕ) → at ≤ length s → (r : Ans A) → p s at ≡ r → and_then r (λ a m. k a s m) ≡ bad n → take n t ≡ take n s → (r' : Ans A) → p t at ≡ r' → and_then r' (λ a m. k a t m) ≡ bad j → n ≤ j
    bind_first s t at n j h (bad m) q y w (bad m') q' y' =
        let e = bad_same y in
        let e' = bad_same y' in
        let f = sp.first s t at m m' h q (subst (λ (i : ℕ). take i t ≡ take i s) (sym e) w) q' in
        omega arith
    bind_first s t at n j h (bad m) q y w (got a m') q' y' =
        let e = bad_same y in
        let q₁ : p s at ≡ bad n = q ∙ ap bad e in
        let c = sp.place s at n h q₁ in
        let f = after_bad s t at n m' a h q₁ w q' in
        let l = as_long s t n c.1 w in
        let x = sp.ahead t at m' a (omega (arith, c.0, l)) q' in
        let z = ahead' a t m' j x.1 y' in
        omega (arith, f, z.0)
    bind_first s t at n j h (got a m) q y w r' q' y' =
        let x = sp.ahead s at m a h q in
        let z = ahead' a s m n x.1 y in
        let g = sp.same s t at m a h q (shorter s t m n z.0 w) in
        first' a s t m n j x.1 y w (ap (λ (r : Ans A). and_then r (λ a m. k a t m)) (sym (sym q' ∙ g)) ∙ y')

  pub steady_bind : ((a : A) → Steady (k a)) → Steady (p >>= k)
  steady_bind sk = record {
    ahead = λ s at e b h y. bind_ahead sk s at e b h (p s at) refl y;
    place = λ s at j h y. bind_place (λ a. (sk a).place) (λ a. (sk a).first) s at j h (p s at) refl y;
    same = λ s t at e b h y w. bind_same sk s t at e b h (p s at) refl y w;
    first = λ s t at n j h y w y'. bind_first (λ a. (sk a).place) (λ a. (sk a).first) s t at n j h (p s at) refl y w (p t at) refl y';
  }

  -- the same with the end of the bytes behind it, which asks for nothing more
  module _ (last : (a : A) (s : List ℕ) (at j : ℕ) → k a s at ≡ bad j → at ≡ j) where
    last_place : (a : A) (s : List ℕ) (at j : ℕ) → at ≤ length s → k a s at ≡ bad j → (at ≤ j) × (j ≤ length s)
    last_place a s at j h y = let x = last a s at j y in (omega arith, omega arith)

    last_first : (a : A) (s t : List ℕ) (at n j : ℕ) → at ≤ length s → k a s at ≡ bad n → take n t ≡ take n s → k a t at ≡ bad j → n ≤ j
    last_first a s t at n j h y w y' = let x = last a s at n y in let z = last a t at j y' in omega arith

    pub end_place : (s : List ℕ) (at j : ℕ) → at ≤ length s → (p >>= k) s at ≡ bad j → (at ≤ j) × (j ≤ length s)
    end_place s at j h y = bind_place last_place last_first s at j h (p s at) refl y

    pub end_first : (s t : List ℕ) (at n j : ℕ) → at ≤ length s → (p >>= k) s at ≡ bad n → take n t ≡ take n s → (p >>= k) t at ≡ bad j → n ≤ j
    end_first s t at n j h y w y' = bind_first last_place last_first s t at n j h (p s at) refl y w (p t at) refl y'

pub steady_done : {A : Type 0} (a : A) → Steady (done a)
steady_done a = record {
  ahead = λ s at e b h y. let q = (got_same y).1 in (omega arith, omega arith);
  place = λ s at k h y. got_bad y;
  same = λ s t at e b h y w. y;
  first = λ s t at k j h y w y'. got_bad y;
}

-- ---- an item: what is refused is refused at its start
pub record Item {A : Type 0} (p : Parser A) : Type 0 where
  pub steady : Steady p
  pub start : (s : List ℕ) (at k : ℕ) → p s at ≡ bad k → at ≡ k

-- ---- the others are made of these
pub steady_mapped : {A B : Type 0} (f : A → B) {p : Parser A} → Steady p → Steady (mapped f p)
unfolding mapped
steady_mapped f sp = steady_bind sp (λ a. steady_done (f a))

pub steady_many : {A : Type 0} {p : List A → Parser A} → ((before : List A) → Steady (p before)) → (before : List A) (n : ℕ) → Steady (many_from p before n)
unfolding many_from
steady_many sp before zero = steady_done []
steady_many sp before (suc n) = steady_bind (sp before) (λ a. steady_bind (steady_many sp (before ++ (a ∷ [])) n) (λ l. steady_done (a ∷ l)))

pub end_start : {A : Type 0} (a : A) (s : List ℕ) (at j : ℕ) → end a s at ≡ bad j → at ≡ j
unfolding end
end_start a s at j y = go (leb (length s) at) y
  where
    go : (b : Bool) → pick b (got a at) (bad at) ≡ bad j → at ≡ j
    go false y = bad_same y
    go true y = got_bad y
