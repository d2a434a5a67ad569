-- A part is passed: the cursor moves as it does for the reader, and the value is not made.
use Rattle.std.specs.Prelude.{ℕ, zero, suc, ◌+◌, ◌-◌, ◌≤◌, ◌<◌, ◌≡◌, refl, Bool, true, false, List, length, replicate, ltb}
use Rattle.std.proofs.Common.{sym, subst, arith, lt-ltb, ltb-true}
use Rattle.codec_forms.specs.Wire.{got, bad, pick, Parser, ◌>>=◌, done, run, number, up_to, mapped, optional, counted}
use Rattle.codec_bytes.specs.Reading.{run_got}
use Rattle.codec_cursor.specs.Cursor.{far, Reads, reads_then, ends, reads_absent, reads_present}
use Rattle.codec_cursor.specs.Items.{Counts, gives}
use Rattle.codec_cursor.specs.Cells.{Filled, filled_start, filled_more, filled_list, ReadsCells}
use Rattle.archive_bundle_read.specs.Parts.{fee_paid, fee_none}
use Rattle.archive_form.specs.Parse.{parse_fee_intent}

-- what ends at a place began at one
pub reads_before : {A : Type 0} {p : Parser A} {s : List ℕ} {c e : ℕ} {v : A} → Reads p s c v e → e < far → c < far
reads_before {A} {p} {s} {c} {e} {v} h l = go (ltb c far) refl (rw (lt-ltb e far l) at h.is)
  where
    go : (b : Bool) → ltb c far ≡ b → got v e ≡ pick b (p s c) (bad (c - far)) → c < far
    go true q x = ltb-true c far q
    go false q x = absurd (let z : ◌≡◌ {A = ℕ} 0 1 = cc in omega arith)

-- from the cursor c on p leaves the cursor at e, with some value
pub record Skips {A : Type 0} (p : Parser A) (s : List ℕ) (c e : ℕ) : Type 0 where
  pub value : A
  pub reads : Reads p s c value e

pub skips : {A : Type 0} {p : Parser A} {s : List ℕ} {c e : ℕ} {v : A} → Reads p s c v e → Skips p s c e
skips {A} {p} {s} {c} {e} {v} h = record { value = v; reads = h }

pub skips_end : {A : Type 0} {s : List ℕ} {c : ℕ} (v : A) → Skips (done v) s c c
skips_end v = skips ends

-- one part behind another
pub skips_then : {A B : Type 0} {p : Parser A} (k : A → Parser B) {s : List ℕ} {c m e : ℕ} → Skips p s c m → ((a : A) → Skips (k a) s m e) → Skips (p >>= k) s c e
skips_then k h g = let x = g h.value in record { value = x.value; reads = reads_then k h.reads x.reads }

pub skips_mapped : {A B : Type 0} (f : A → B) {p : Parser A} {s : List ℕ} {c e : ℕ} → Skips p s c e → Skips (mapped f p) s c e
unfolding mapped
skips_mapped f h = skips_then _ h (λ a. skips_end (f a))

pub skips_number : (n : ℕ) {s : List ℕ} {c e : ℕ} → Skips (run n) s c e → Skips (number n) s c e
unfolding number
skips_number n h = skips_then _ h (λ l. skips_end _)

pub run_passed : (n : ℕ) (s : List ℕ) (c : ℕ) → c + n ≤ length s → length s < far → Skips (run n) s c (c + n)
run_passed n s c h l = skips (gives (run n) s c (omega arith) (omega arith) (run_got n s c h))

-- a length, and as many bytes
pub counted_passed : {n : ℕ} {s : List ℕ} {c k m e : ℕ} → Counts n s c k m → Skips (run k) s m e → Skips (counted n run) s c e
unfolding counted
counted_passed h g = record { value = g.value; reads = reads_then _ h.reads g.reads }

-- ---- a part behind a mark
pub record SkipsOptional (n : ℕ) (s : List ℕ) (c e : ℕ) : Type 0 where
  pub mark : ℕ
  pub behind : ℕ
  pub reads : Reads (up_to 1) s c mark behind
  pub none : mark ≡ 0 → e ≡ behind
  pub some : (mark ≡ 0 → ⊥) → Skips (run n) s behind e

pub absent_passed : {n : ℕ} {s : List ℕ} {c k m : ℕ} → Counts 1 s c k m → k ≡ 0 → SkipsOptional n s c m
absent_passed {n} {s} {c} {k} {m} h q = record { mark = k; behind = m; reads = h.reads; none = λ _. refl; some = λ f. absurd (f q) }

pub present_passed : {n : ℕ} {s : List ℕ} {c k m e : ℕ} → Counts 1 s c k m → (k ≡ 0 → ⊥) → Skips (run n) s m e → SkipsOptional n s c e
present_passed {n} {s} {c} {k} {m} {e} h q g = record { mark = k; behind = m; reads = h.reads; none = λ f. absurd (q f); some = λ _. g }

pub skips_optional : {A : Type 0} (z : A) {p : Parser A} {n : ℕ} {s : List ℕ} {c e : ℕ} → ((m : ℕ) → Skips (run n) s m e → Skips p s m e) → SkipsOptional n s c e → Skips (optional z p) s c e
skips_optional {A} z {p} {n} {s} {c} {e} g h = go h.mark refl
  where
    go : (k : ℕ) → h.mark ≡ k → Skips (optional z p) s c e
    go zero q = record { value = z; reads = subst (λ (d : ℕ). Reads (optional z p) s c z d) (sym (h.none q)) (reads_absent z p h.reads q) }
    go (suc k) q =
        let t : h.mark ≡ 0 → ⊥ = λ r. omega (arith, q, r) in
        let x = g h.behind (h.some t) in
        record { value = x.value; reads = reads_present z h.reads t x.reads }

-- ---- elements, one behind the other
pub record SkipsCells {A : Type 0} (n : ℕ) (z : A) (p : Parser A) (s : List ℕ) (c e : ℕ) : Type 0 where
  pub count : ℕ
  pub items : List A
  pub reads : ReadsCells n z (λ before. p) s c count items e

-- of k elements from the cursor c on, i are passed, and the cursor is e
pub record Passing {A : Type 0} (n : ℕ) (z : A) (p : List A → Parser A) (s : List ℕ) (c k e i : ℕ) : Type 0 where
  pub items : List A
  pub filled : Filled n z p s c k items e i

pub passing_start : {A : Type 0} (n : ℕ) (z : A) (p : List A → Parser A) (s : List ℕ) (c k : ℕ) → Passing n z p s c k c 0
passing_start n z p s c k = record { items = replicate n z; filled = filled_start n z p s c k }

pub passing_more : {A : Type 0} {n : ℕ} {z : A} {p : Parser A} {s : List ℕ} {c k e i d : ℕ} → Passing n z (λ before. p) s c k e i → k ≤ n → i < k → Skips p s e d → Passing n z (λ before. p) s c k d (i + 1)
passing_more f h l g = record { items = _; filled = filled_more f.filled h l g.reads }

pub passing_list : {A : Type 0} {n : ℕ} {z : A} {p : Parser A} {s : List ℕ} {b c k e i : ℕ} → Counts n s b k c → Passing n z (λ before. p) s c k e i → k ≤ i → SkipsCells n z p s b e
passing_list h f l = record { count = _; items = f.items; reads = filled_list h.reads h.few f.filled l }

pub skips_present : {A : Type 0} (z : A) {p : Parser A} {s : List ℕ} {c m k e : ℕ} → Reads (up_to 1) s c k m → (k ≡ 0 → ⊥) → Skips p s m e → Skips (optional z p) s c e
skips_present z h q g = record { value = g.value; reads = reads_present z h q g.reads }

-- a fee intent without a target
pub fee_small : {s : List ℕ} {c m k : ℕ} → Reads (up_to 2) s c k m → k < 2 → Skips parse_fee_intent s c m
fee_small {s} {c} {m} {k} h l = go k refl
  where
    go : (n : ℕ) → k ≡ n → Skips parse_fee_intent s c m
    go zero q = skips (fee_paid h q)
    go (suc zero) q = skips (fee_none h q)
    go (suc (suc n)) q = absurd (omega arith)
