-- The forms by cases, as the writers meet them.
use Rattle.std.specs.Prelude.{◌≡◌, Bool, true, false, List, [], ◌∷◌, ℕ, ◌%◌, ◌++◌, min, length, take}
use Rattle.std.proofs.Common.{sym, ap, ◌∙◌, append-nil, append_assoc, arith}
use Rattle.base_lists.specs.Laws.{take_cut}
use Rattle.codec_forms.specs.Wire.{be, enc_many, enc_list}
use Rattle.codec_append.specs.Fits.{Fits, fits_as}
use Rattle.book.specs.declared.Output.{Output}
use Rattle.book.specs.declared.FeeIntentKind.TheVariants.{AlreadyPaid, NoFeeConfigured, Attach}
use Rattle.book.specs.declared.SubmissionFeeIntent.{SubmissionFeeIntent}
use Rattle.archive_bundle_form.specs.Forms.{encode_output, encode_run, encode_fee_intent, kind_number, attached}

-- a count as its byte
pub count_byte : (n : ℕ) → be 1 (n % 256) ≡ be 1 n
unfolding be
count_byte n = let e : n % 256 % 256 ≡ n % 256 = omega arith in ap (λ (x : ℕ). x ∷ []) e

-- the parts of an array up to a count that is cut at its length N
pub each_cut : {A : Type 0} (enc : A → List ℕ) (N n : ℕ) {k : ℕ} (l : List A) {at : ℕ} {d d' : List ℕ} {e : ℕ} → length l ≡ N → k ≡ min n N → Fits (enc_many enc (take k l)) at d d' e → Fits (enc_many enc (take n l)) at d d' e
each_cut enc N n {k} l h q f = fits_as (ap (enc_many enc) (take_cut N n k l h q)) f

pub list_cut : {A : Type 0} (enc : A → List ℕ) (N n : ℕ) {k : ℕ} (l : List A) {at : ℕ} {d d' : List ℕ} {e : ℕ} → length l ≡ N → k ≡ min n N → Fits (enc_list enc (take k l)) at d d' e → Fits (enc_list enc (take n l)) at d d' e
list_cut enc N n {k} l h q f = fits_as (ap (enc_list enc) (take_cut N n k l h q)) f

pub run_no : (b : Bool) (os : List Output) → b ≡ false → be 1 0 ≡ encode_run b os
unfolding encode_run
run_no b os h = sym (ap (λ (x : Bool). encode_run x os) h)

pub run_yes : (b : Bool) (os : List Output) → b ≡ true → be 1 1 ++ be 1 (length os) ++ enc_many encode_output os ≡ encode_run b os
unfolding encode_run
run_yes b os h = sym (ap (λ (x : Bool). encode_run x os) h)

-- a fee intent of each kind
module _ (f : SubmissionFeeIntent) where
  pub fee_paid : f.kind ≡ AlreadyPaid → be 1 0 ≡ encode_fee_intent f
  unfolding encode_fee_intent
  fee_paid h = sym (append-nil (be 1 0)) ∙ ap (λ k. be 1 (kind_number k) ++ attached k f) (sym h)

  pub fee_none : f.kind ≡ NoFeeConfigured → be 1 1 ≡ encode_fee_intent f
  unfolding encode_fee_intent
  fee_none h = sym (append-nil (be 1 1)) ∙ ap (λ k. be 1 (kind_number k) ++ attached k f) (sym h)

  pub fee_attach : f.kind ≡ Attach → be 1 2 ++ f.target ++ be 8 f.amount ≡ encode_fee_intent f
  unfolding encode_fee_intent
  fee_attach h = append_assoc (be 1 2) f.target (be 8 f.amount) ∙ ap (λ k. be 1 (kind_number k) ++ attached k f) (sym h)
