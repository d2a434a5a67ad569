-- A cursor is one number: below `far` the place where the next item starts, from `far` on a refusal whose place is what it has above `far`.
-- A reader moves the cursor and hands out a value; from a refusal nothing is read, so that readers stand one behind the other without a test.
use Prim.Native.Nat.{ℕ, zero, suc, ◌+◌, ◌-◌, ◌≤◌, ◌<◌}
use Rattle.std.specs.Prelude.{Option, None, Some, ◌≡◌, refl, Bool, true, false, List, ltb}
use Rattle.std.specs.Option.{option_map}
use Rattle.std.proofs.Common.{sym, ap, ◌∙◌, arith, lt-ltb, le-ltb}
use Rattle.codec_forms.specs.Wire.{Ans, got, bad, and_then, Parser, ◌>>=◌, done, pick, up_to, checked, number, mapped, chosen, optional, opt_number}

-- longer than any slice
abbrev pub far : ℕ
far = 9223372036854775808

-- what the cursor e stands for with the value v
abbrev pub stands : {A : Type 0} → A → ℕ → Ans A
stands v e = pick (ltb e far) (got v e) (bad (e - far))

-- p from the cursor c on
abbrev pub from : {A : Type 0} → Parser A → List ℕ → ℕ → Ans A
from p s c = pick (ltb c far) (p s c) (bad (c - far))

-- p, from the cursor c on, gives v and leaves the cursor at e; where that is a refusal v is any value
pub record Reads {A : Type 0} (p : Parser A) (s : List ℕ) (c : ℕ) (v : A) (e : ℕ) : Type 0 where
  pub is : stands v e ≡ from p s c

absurdly : {A : Type 0} {X : Type 0} {a : A} {m e : ℕ} → ◌≡◌ {A = Ans A} (got a m) (bad e) → X
absurdly h = absurd (let z : ◌≡◌ {A = ℕ} 0 1 = cc in omega arith)

-- ---- what a caller knows behind the test of the cursor
pub reads_got : {A : Type 0} {p : Parser A} {s : List ℕ} {c e : ℕ} {v : A} → Reads p s c v e → e < far → p s c ≡ got v e
reads_got {A} {p} {s} {c} {e} {v} h l = go (ltb c far) (rw (lt-ltb e far l) at h.is)
  where
    go : (b : Bool) → got v e ≡ pick b (p s c) (bad (c - far)) → p s c ≡ got v e
    go true q = sym q
    go false q = absurdly q

pub reads_bad : {A : Type 0} {p : Parser A} {s : List ℕ} {c e : ℕ} {v : A} → Reads p s c v e → c < far → far ≤ e → p s c ≡ bad (e - far)
reads_bad {A} {p} {s} {c} {e} {v} h k l = sym (h.is ∙ rw (lt-ltb c far k)) ∙ rw (le-ltb e far l)

-- ---- the laws, one for each combinator
pub ends : {A : Type 0} {s : List ℕ} {c : ℕ} {v : A} → Reads (done v) s c v c
ends = record { is = refl }

-- the same value, said in another way
pub ends_as : {A : Type 0} {s : List ℕ} {c : ℕ} {v w : A} → v ≡ w → Reads (done v) s c w c
ends_as {A} {s} {c} {v} {w} q = record { is = ap (λ (x : A). stands x c) (sym q) }

module _ {A B : Type 0} (p : Parser A) (k : A → Parser B) (s : List ℕ) (c m e : ℕ) (a : A) (v : B) where
  abbrev behind : Ans A → Ans B
  behind r = and_then r (λ b d. k b s d)

  then_by : (x y : Bool) → pick y (got a m) (bad (m - far)) ≡ pick x (p s c) (bad (c - far)) → stands v e ≡ pick y (k a s m) (bad (m - far))
      → stands v e ≡ pick x (behind (p s c)) (bad (c - far))
  then_by true true h g = g ∙ ap behind h
  then_by true false h g = g ∙ ap behind h
  then_by false true h g = absurdly h
  then_by false false h g = g ∙ ap behind h

-- one reader behind another
pub reads_then : {A B : Type 0} {p : Parser A} (k : A → Parser B) {s : List ℕ} {c m e : ℕ} {a : A} {v : B} → Reads p s c a m → Reads (k a) s m v e → Reads (p >>= k) s c v e
reads_then {A} {B} {p} k {s} {c} {m} {e} {a} {v} h g = record { is = then_by p k s c m e a v (ltb c far) (ltb m far) h.is g.is }

pub reads_mapped : {A B : Type 0} (f : A → B) {p : Parser A} {s : List ℕ} {c e : ℕ} {a : A} {v : B} → Reads p s c a e → v ≡ f a → Reads (mapped f p) s c v e
unfolding mapped
reads_mapped f h q = reads_then _ h (ends_as (sym q))

-- the same bytes read by another parser that agrees there
pub reads_as : {A : Type 0} {p q : Parser A} {s : List ℕ} {c e : ℕ} {v : A} → ((n : ℕ) → q s n ≡ p s n) → Reads p s c v e → Reads q s c v e
reads_as {A} {p} {q} {s} {c} w h = record { is = h.is ∙ ap (λ (x : Ans A). pick (ltb c far) x (bad (c - far))) (sym (w c)) }

-- ---- a part behind a mark 0 or 1
module _ {A : Type 0} (z : A) where
  pub reads_absent : (p : Parser A) {s : List ℕ} {c m k : ℕ} → Reads (up_to 1) s c k m → k ≡ 0 → Reads (optional z p) s c z m
  unfolding optional chosen
  reads_absent p {s} {c} {m} {k} h q = reads_then _ h (go k q)
    where
      go : (k : ℕ) → k ≡ 0 → Reads (chosen z p k) s m z m
      go zero q = ends
      go (suc k) q = absurd (omega arith)

  pub reads_present : {p : Parser A} {s : List ℕ} {c m k e : ℕ} {v : A} → Reads (up_to 1) s c k m → (k ≡ 0 → ⊥) → Reads p s m v e → Reads (optional z p) s c v e
  unfolding optional chosen
  reads_present {p} {s} {c} {m} {k} {e} {v} h q g = reads_then _ h (go k q)
    where
      go : (k : ℕ) → (k ≡ 0 → ⊥) → Reads (chosen z p k) s m v e
      go zero q = absurd (q refl)
      go (suc k) q = g

-- an optional number in a type of its own, as the reader of a plain one finds it
pub reads_number_of : {A : Type 0} (of : ℕ → A) {s : List ℕ} {c e : ℕ} {n : Option ℕ} {o : Option A} → Reads (opt_number (λ n. n)) s c n e → o ≡ option_map of n → Reads (opt_number of) s c o e
unfolding optional chosen mapped
reads_number_of {A} of {s} {c} {e} {n} {o} h q = reads_as same (reads_mapped (option_map of) h q)
  where
    inner : (r : Ans ℕ) → and_then r (λ n d. got (Some (of n)) d) ≡ and_then (and_then r (λ n d. got (Some n) d)) (λ o d. got (option_map of o) d)
    inner (got n d) = refl
    inner (bad d) = refl

    behind : (k d : ℕ) → chosen None (number 8 >>= λ n. done (Some (of n))) k s d ≡ and_then (chosen None (number 8 >>= λ n. done (Some n)) k s d) (λ o d. got (option_map of o) d)
    behind zero d = refl
    behind (suc k) d = inner (number 8 s d)

    first : (r : Ans ℕ) → and_then r (λ k d. chosen None (number 8 >>= λ n. done (Some (of n))) k s d) ≡ and_then (and_then r (λ k d. chosen None (number 8 >>= λ n. done (Some n)) k s d)) (λ o d. got (option_map of o) d)
    first (got k d) = behind k d
    first (bad d) = refl

    same : (d : ℕ) → opt_number of s d ≡ mapped (option_map of) (opt_number (λ n. n)) s d
    same d = first (up_to 1 s d)

-- ---- an item that must pass a test
-- the cursor of a refusal at the place c; a refusal stays as it is
abbrev pub refused_at : ℕ → ℕ
refused_at c = pick (ltb c far) (c + far) c

-- the cursor behind an item that started at c and ended at e, where the test came out as t
abbrev pub passed : Bool → ℕ → ℕ → ℕ
passed true c e = e
passed false c e = pick (ltb e far) (refused_at c) e

pub refused_is : {A : Type 0} (v : A) (c : ℕ) → ltb c far ≡ true → stands v (refused_at c) ≡ bad c
refused_is v c h = rw (h, le-ltb (c + far) far (omega arith)) (ap bad (q c))
  where
    q : (n : ℕ) → n + far - far ≡ n
    q n = omega arith

module _ {A : Type 0} (test : A → Bool) (p : Parser A) (s : List ℕ) (c e : ℕ) (v : A) where
  abbrev tested : Ans A → Ans A
  tested r = and_then r (λ a d. pick (test a) (got a d) (bad c))

  checked_by : (t x y : Bool) → t ≡ test v → ltb c far ≡ x → ltb e far ≡ y → pick y (got v e) (bad (e - far)) ≡ pick x (p s c) (bad (c - far))
      → stands v (passed t c e) ≡ pick x (tested (p s c)) (bad (c - far))
  checked_by t false true q u w h = absurdly h
  checked_by true true true q u w h = rw w (ap (λ (b : Bool). pick b (got v e) (bad c)) q ∙ ap tested h)
  checked_by true true false q u w h = rw w (ap tested h)
  checked_by true false false q u w h = rw w h
  checked_by false true true q u w h = rw w (refused_is v c u ∙ ap (λ (b : Bool). pick b (got v e) (bad c)) q ∙ ap tested h)
  checked_by false true false q u w h = rw (w, w) (ap tested h)
  checked_by false false false q u w h = rw (w, w) h

pub reads_checked : {A : Type 0} (test : A → Bool) {p : Parser A} {s : List ℕ} {c e : ℕ} {v : A} {t : Bool} → Reads p s c v e → t ≡ test v → Reads (checked test p) s c v (passed t c e)
unfolding checked
reads_checked test {p} {s} {c} {e} {v} {t} h q = record { is = checked_by test p s c e v t (ltb c far) (ltb e far) q refl refl h.is }

-- what `search` is handed to prove a reader that is a chain of others, with or without a mark before it
pub ruleset reading = (reads_then, ends, reads_absent, reads_present)
