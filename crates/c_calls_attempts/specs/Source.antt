-- The source of a fee and the joined bundle, as C hands them over.
use Rattle.std.specs.Prelude.{ℕ, zero, suc, ◌-◌, ◌≡◌, refl, Bool, true, false, cond, ◌&&◌, List, length, eqb, ltb, leb}
use Rattle.std.proofs.Common.{sym, ap, ◌∙◌, arith, ne_eqb}
use Rattle.std.specs.Prelude.{Option, None, Some}
use Rattle.std.specs.Bool.{then_some}
use Rattle.std.proofs.lemmas.Bool.{lt-leb}
use Rattle.codec_forms.specs.Wire.{pick, got, bad}
use Rattle.codec_cursor.specs.Cursor.{far, Reads}
use Rattle.book.specs.Zero.{zero_bundle}
use Rattle.book.specs.declared.SpendBundle.{SpendBundle}
use Rattle.archive_form.specs.Parse.{parse_bundle}
pub use Rattle.book_answers.specs.Source.{source_in, source_over}
use Rattle.c_boundary.specs.Arguments.{taken_whole, bytes_as}

-- the joined bundle in archive form; no bytes with any other source
unfoldable pub joined_in : ℕ → List ℕ → Option SpendBundle
unfolding parse_bundle
joined_in n s = cond (eqb n 1) (bytes_as (parse_bundle false) s) (cond (leb (length s) 0) (Some zero_bundle) None)

-- ---- what the code finds
some_by : {A : Type 0} (t : Bool) (v : A) → then_some t v ≡ cond t (Some v) None
some_by true v = refl
some_by false v = refl

zero_or_less : (n : ℕ) → eqb n 0 ≡ leb n 0
zero_or_less zero = refl
zero_or_less (suc n) = ne_eqb (suc n) 0 (λ e. omega (arith, e)) ∙ sym (lt-leb (suc n) 0 (omega arith))

module _ (n : ℕ) (s : List ℕ) where
  pub joined_none : {v : SpendBundle} {x : Option SpendBundle} → (n ≡ 1 → ⊥) → v ≡ zero_bundle → x ≡ then_some (eqb (length s) 0) v → x ≡ joined_in n s
  unfolding joined_in
  joined_none {v} q e h =
      h ∙ some_by (eqb (length s) 0) v
      ∙ ap (λ (t : Bool). cond t (Some v) None) (zero_or_less (length s))
      ∙ ap (λ (b : SpendBundle). cond (leb (length s) 0) (Some b) None) e
      ∙ sym (ap (λ (t : Bool). cond t (bytes_as (parse_bundle false) s) (cond (leb (length s) 0) (Some zero_bundle) None)) (ne_eqb n 1 q))

  pub joined_read : {v : SpendBundle} {e : ℕ} {x : Option SpendBundle} → n ≡ 1 → Reads (parse_bundle false) s 0 v e → x ≡ then_some (ltb e far && leb (length s) e) v → x ≡ joined_in n s
  unfolding joined_in
  joined_read {v} {e} q r h =
      h ∙ some_by (ltb e far && leb (length s) e) v
      ∙ sym (ap (λ (k : ℕ). cond (eqb k 1) (bytes_as (parse_bundle false) s) (cond (leb (length s) 0) (Some zero_bundle) None)) q
      ∙ ap (taken_whole (length s)) (sym r.is) ∙ go (ltb e far))
    where
      go : (x : Bool) → taken_whole (length s) (pick x (got v e) (bad (e - far))) ≡ cond (x && leb (length s) e) (Some v) None
      go true = refl
      go false = refl
