-- Fee intents as the code reads them, and kinds whose last one stands for every number from its own on.
use Prim.Native.Nat.{ℕ, zero, suc}
use Rattle.std.specs.Prelude.{◌≡◌, refl, List}
use Rattle.std.proofs.Common.{ap, arith}
use Rattle.codec_forms.specs.Wire.{run, number, up_to}
use Rattle.codec_cursor.specs.Cursor.{Reads, reads_then, ends}
use Rattle.book.specs.Zero.{zeros}
use Rattle.book.specs.declared.FeeIntentKind.TheVariants.{AlreadyPaid, NoFeeConfigured, Attach}
use Rattle.archive_form.specs.Parse.{parse_attached, parse_fee_intent}

module _ {s : List ℕ} {c m k : ℕ} (h : Reads (up_to 2) s c k m) where
  pub fee_paid : k ≡ 0 → Reads parse_fee_intent s c (record { kind = AlreadyPaid; target = zeros 32; amount = 0 }) m
  unfolding parse_fee_intent parse_attached
  fee_paid q = reads_then _ h (go k q)
    where
      go : (k : ℕ) → k ≡ 0 → Reads (parse_attached k) s m (record { kind = AlreadyPaid; target = zeros 32; amount = 0 }) m
      go zero q = ends
      go (suc k) q = absurd (omega arith)

  pub fee_none : k ≡ 1 → Reads parse_fee_intent s c (record { kind = NoFeeConfigured; target = zeros 32; amount = 0 }) m
  unfolding parse_fee_intent parse_attached
  fee_none q = reads_then _ h (go k q)
    where
      go : (k : ℕ) → k ≡ 1 → Reads (parse_attached k) s m (record { kind = NoFeeConfigured; target = zeros 32; amount = 0 }) m
      go zero q = absurd (omega arith)
      go (suc zero) q = ends
      go (suc (suc k)) q = absurd (omega arith)

  pub fee_attach : (k ≡ 0 → ⊥) → (k ≡ 1 → ⊥) → {t : List ℕ} {d n e : ℕ} → Reads (run 32) s m t d → Reads (number 8) s d n e → Reads parse_fee_intent s c (record { kind = Attach; target = t; amount = n }) e
  unfolding parse_fee_intent parse_attached
  fee_attach p q {t} {d} {n} {e} a b = reads_then _ h (go k p q)
    where
      go : (k : ℕ) → (k ≡ 0 → ⊥) → (k ≡ 1 → ⊥) → Reads (parse_attached k) s m (record { kind = Attach; target = t; amount = n }) e
      go zero p q = absurd (p refl)
      go (suc zero) p q = absurd (q refl)
      go (suc (suc k)) p q = reads_then _ a (reads_then _ b ends)

-- the last kind stands for every number from its own on
pub after_one : {B : Type 0} (f : ℕ → B) {v : B} → ((k : ℕ) → v ≡ f (suc k)) → (n : ℕ) → (n ≡ 0 → ⊥) → v ≡ f n
after_one f h zero p = absurd (p refl)
after_one f h (suc n) p = h n

pub after_two : {B : Type 0} (f : ℕ → B) {v : B} → ((k : ℕ) → v ≡ f (suc (suc k))) → (n : ℕ) → (n ≡ 0 → ⊥) → (n ≡ 1 → ⊥) → v ≡ f n
after_two f h zero p q = absurd (p refl)
after_two f h (suc n) p q = after_one (λ k. f (suc k)) h n (λ e. q (ap suc e))

pub after_three : {B : Type 0} (f : ℕ → B) {v : B} → ((k : ℕ) → v ≡ f (suc (suc (suc k)))) → (n : ℕ) → (n ≡ 0 → ⊥) → (n ≡ 1 → ⊥) → (n ≡ 2 → ⊥) → v ≡ f n
after_three f h zero p q r = absurd (p refl)
after_three f h (suc n) p q r = after_two (λ k. f (suc k)) h n (λ e. q (ap suc e)) (λ e. r (ap suc e))
