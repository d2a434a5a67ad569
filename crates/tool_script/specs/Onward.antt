-- Where an argument that is there ends: behind its start and within the script.
use Rattle.std.specs.Prelude.{◌≡◌, refl, Bool, true, false, cond, Option, Some, None, List, ℕ, ◌+◌, ◌≤◌, ◌<◌, length, get_or, ltb, IfSome}
use Rattle.std.specs.Bool.{then_some}
use Rattle.std.proofs.Common.{sym, arith, ltb-true}
use Rattle.std.proofs.Math.Decide.{dec_le}
use Rattle.std.proofs.lemmas.Bool.{lt-leb}
use Rattle.codec_forms.specs.Wire.{Ans, got, bad, Parser, run, number, up_to}
use Rattle.codec_bytes.specs.Reading.{run_short, run_got, number_short, number_got, up_to_short, up_to_over, up_to_got}
use Rattle.codec_cursor.specs.Cursor.{far, Reads, reads_got}
use Rattle.codec_cursor.specs.Items.{Counts}

pub record Onward (s : List ℕ) (at e : ℕ) : Type 0 where
  pub ahead : at < e
  pub within : e ≤ length s

-- an argument of one byte: where it ends, and what the parser p makes of it
pub record Argument {A : Type 0} (p : Parser A) (s : List ℕ) (at : ℕ) (value : Option A) (e : ℕ) : Type 0 where
  pub on : Onward s at e
  pub made : A
  pub place : ℕ
  pub is : Reads p s at made place
  pub fits : value ≡ cond (ltb place far) (Some made) None

-- ---- the items that a cursor passes
-- behind the cursor c the cursor e is a place further on and within the script, or a refusal
pub record On (s : List ℕ) (c e : ℕ) : Type 0 where
  pub ahead : e < far → c < e
  pub within : e < far → e ≤ length s

-- an item of n bytes: behind the room for them it ends at their end, without it it is refused
ended : {A : Type 0} {p : Parser A} {s : List ℕ} {c e : ℕ} {v : A} (n : ℕ) → 0 < n → Reads p s c v e
    → (c + n ≤ length s → (w : A) (d : ℕ) → p s c ≡ got w d → d ≡ c + n) → (length s < c + n → p s c ≡ bad c) → On s c e
ended {A} {p} {s} {c} {e} {v} n h r f g = record { ahead = λ t. (let k = place t in omega arith); within = λ t. (let k = place t in let m = room t in omega arith) }
  where
    cut : e < far → length s < c + n → ⊥
    cut t y = let q = g y in let m = reads_got r t in let x : ◌≡◌ {A = ℕ} 0 1 = cc in omega arith

    room : e < far → c + n ≤ length s
    room t = go (dec_le (c + n) (length s))
      where
        go : Dec (c + n ≤ length s) → c + n ≤ length s
        go (yes y) = y
        go (no y) = absurd (cut t (omega arith))

    place : e < far → e ≡ c + n
    place t = f (room t) v e (reads_got r t)

same_end : {A : Type 0} {p : Ans A} {v w : A} {d e : ℕ} → p ≡ got v e → p ≡ got w d → d ≡ e
same_end x y = cc

short : (n : ℕ) (s : List ℕ) (at : ℕ) → length s < at + n → run n s at ≡ bad at
short n s at h = run_short n s at {r = false} (sym (lt-leb (at + n) (length s) h)) refl

pub number_on : {s : List ℕ} {c v e : ℕ} → Reads (number 8) s c v e → On s c e
number_on {s} {c} r = ended 8 (omega arith) r (λ h w d q. same_end (number_got 8 s c h) q) (λ h. number_short 8 s c (short 8 s c h))

pub hash_on : {s : List ℕ} {c : ℕ} {v : List ℕ} {e : ℕ} → Reads (run 32) s c v e → On s c e
hash_on {s} {c} r = ended 32 (omega arith) r (λ h w d q. same_end (run_got 32 s c h) q) (λ h. short 32 s c h)

pub byte_on : {m : ℕ} {s : List ℕ} {c v e : ℕ} → Counts m s c v e → On s c e
byte_on {m} {s} {c} r = ended 1 (omega arith) r.reads (λ h w d q. go h w d q (dec_le (get_or s c 0) m)) (λ h. up_to_short m s c (short 1 s c h))
  where
    go : c + 1 ≤ length s → (w d : ℕ) → up_to m s c ≡ got w d → Dec (get_or s c 0 ≤ m) → d ≡ c + 1
    go h w d q (yes y) = same_end (up_to_got m s c h y) q
    go h w d q (no y) = absurd (let b = up_to_over m s c h (omega arith) in let x : ◌≡◌ {A = ℕ} 0 1 = cc in omega arith)

-- one item behind another
pub on_then : {s : List ℕ} {c d e : ℕ} → On s c d → On s d e → On s c e
on_then {s} {c} {d} {e} x y = record {
  ahead = λ t. (let k = y.ahead t in let m = x.ahead (omega arith) in omega arith);
  within = y.within;
}

-- what is answered where the cursor e is no refusal
pub on_told : {A : Type 0} {s : List ℕ} {c e : ℕ} (P : A → Type 0) (x : A) → On s c e → (Onward s c e → P x) → IfSome (then_some (ltb e far) x) P
on_told {A} {s} {c} {e} P x h f = go (ltb e far) refl
  where
    go : (b : Bool) → ltb e far ≡ b → IfSome (then_some b x) P
    go true t = let k = ltb-true e far t in f (record { ahead = h.ahead k; within = h.within k })
    go false t = tt
