-- How long the forms of the values that calls answer are at most.
use Rattle.std.specs.Prelude.{◌≡◌, refl, List, ℕ, ◌+◌, ◌++◌, ◌≤◌, min, take, length}
use Rattle.std.proofs.Common.{sym, ap, arith, length-append, length-take}
use Rattle.codec_forms.specs.Wire.{be, enc_many}
use Rattle.codec_forms.specs.Number.{be_length, numbers_length, opt_size}
use Rattle.archive_form.specs.Encode.{chain_number, resolution_number, goal_number, encode_hash, encode_attempt, encode_slot}
use Rattle.book.specs.declared.OptionalAttempt.{OptionalAttempt}
use Rattle.archive_bundle_form.specs.Forms.{encode_height}
use Rattle.std.specs.Prelude.{Option}
use Rattle.book.specs.declared.Height.{Height}
use Rattle.std.specs.Prelude.{None, Some}
use Rattle.book_answers.specs.declared.BookSummary.{BookSummary}
use Rattle.book_answers.specs.declared.SubmissionLook.{SubmissionLook}
use Rattle.codec_append.specs.Fits.{Fits, FitsWithin, within_as, within_join, within_byte}
use Rattle.codec_forms.specs.Puts.{Size}
use Rattle.archive_bundle_form.specs.Forms.{encode_bundle}
use Rattle.book.specs.declared.Ids.{Ids}
use Rattle.book_answers.specs.declared.FinalizedSubmission.{FinalizedSubmission}
use Rattle.codec_answers.specs.Forms.{flag_number, disposition_number, enc_option, encode_ids, encode_final, encode_token, encode_look, encode_summary}
use Rattle.codec_answers.specs.Drain.{token_most}

pub height_most : (h : Option Height) → length (encode_height h) ≤ 9
unfolding encode_height
height_most None = omega (arith, be_length 1 0)
height_most (Some h) = omega (arith, length-append (be 1 1) (be 8 h.0), be_length 1 1, be_length 8 h.0)

pub look_most : (l : SubmissionLook) → length (encode_look l) ≤ 38
unfolding encode_look
look_most l =
    let c = be 1 (chain_number l.chain_terminality) in
    let a = be 1 (flag_number l.acknowledged) in
    let m = be 1 (resolution_number l.fee_resolution) in
    let f = be 8 l.applied_fee in
    let e = encode_height l.expiry in
    let t = encode_token l.active_attempt_token in
    let u = encode_token l.completed_attempt_token in
    omega (
      arith,
      length-append (c ++ a ++ m ++ f ++ e ++ t) u,
      length-append (c ++ a ++ m ++ f ++ e) t,
      length-append (c ++ a ++ m ++ f) e,
      length-append (c ++ a ++ m) f,
      length-append (c ++ a) m,
      length-append c a,
      be_length 1 (chain_number l.chain_terminality),
      be_length 1 (flag_number l.acknowledged),
      be_length 1 (resolution_number l.fee_resolution),
      be_length 8 l.applied_fee,
      height_most l.expiry,
      token_most l.active_attempt_token,
      token_most l.completed_attempt_token,
    )

pub summary_most : (s : BookSummary) → length (encode_summary s) ≤ 57
unfolding encode_summary
summary_most s =
    let t = be 8 s.next_delivery_attempt_token.0 in
    let i = be 8 s.next_submission_id.0 in
    let k = be 8 s.submitted_count in
    let q = be 8 s.pending_count in
    let r = be 8 s.retired_count in
    let p = be 8 s.replayed_count in
    let h = encode_height s.rollback_height in
    omega (
      arith,
      length-append (t ++ i ++ k ++ q ++ r ++ p) h,
      length-append (t ++ i ++ k ++ q ++ r) p,
      length-append (t ++ i ++ k ++ q) r,
      length-append (t ++ i ++ k) q,
      length-append (t ++ i) k,
      length-append t i,
      be_length 8 s.next_delivery_attempt_token.0,
      be_length 8 s.next_submission_id.0,
      be_length 8 s.submitted_count,
      be_length 8 s.pending_count,
      be_length 8 s.retired_count,
      be_length 8 s.replayed_count,
      height_most s.rollback_height,
    )

pub ids_most : (i : Ids 64) → length i.items ≡ 64 → length (encode_ids i) ≤ 513
unfolding encode_ids
ids_most i h =
    omega (arith, length-append (be 1 (min i.count 64)) (enc_many (be 8) (take i.count i.items)), be_length 1 (min i.count 64), numbers_length (take i.count i.items), length-take i.count i.items)

pub final_most : (f : FinalizedSubmission) {k : ℕ} → Size (encode_bundle f.bundle) 1073 k → length f.variant_fingerprint ≡ 32 → length (encode_final f) ≤ 1116
unfolding encode_final
final_most f s h =
    let b = encode_bundle f.bundle in
    let x = be 8 f.applied_fee in
    let y = be 1 (flag_number f.warning) in
    let z = be 1 (disposition_number f.disposition) in
    let v = f.variant_fingerprint in
    let w = be 1 (flag_number f.should_broadcast) in
    omega (
      arith,
      s.is,
      s.few,
      length-append (b ++ x ++ y ++ z ++ v) w,
      length-append (b ++ x ++ y ++ z) v,
      length-append (b ++ x ++ y) z,
      length-append (b ++ x) y,
      length-append b x,
      be_length 8 f.applied_fee,
      be_length 1 (flag_number f.warning),
      be_length 1 (disposition_number f.disposition),
      be_length 1 (flag_number f.should_broadcast),
    )

-- a value that may be absent, by cases
module _ {A : Type 0} (form : A → List ℕ) (most : ℕ) {at : ℕ} {d : List ℕ} where
  pub absent_within : {o : Option A} {d' : List ℕ} {e : ℕ} → o ≡ None → Fits (be 1 0) at d d' e → FitsWithin (1 + most) (enc_option form o) at d d' e
  absent_within {o} q f = within_as (sym (ap (enc_option form) q)) (record { fits = f; few = omega (arith, be_length 1 0) })

  pub present_within : {o : Option A} {x : A} {d₁ d₂ : List ℕ} {e₁ e₂ : ℕ} → o ≡ Some x → Fits (be 1 1) at d d₁ e₁ → FitsWithin most (form x) e₁ d₁ d₂ e₂ → FitsWithin (1 + most) (enc_option form o) at d d₂ e₂
  present_within {o} {x} q f g = within_as (sym (ap (enc_option form) q)) (within_join (within_byte refl f) g)

pub slot_most : (s : OptionalAttempt) → length s.attempt.drained_variant_fingerprint ≡ 32 → length s.attempt.finalized_variant_fingerprint.hash ≡ 32 → length (encode_slot s) ≤ 75
unfolding encode_slot encode_attempt encode_hash
slot_most s d f =
    let a = s.attempt in
    let x = be 8 a.token.0 in
    let y = be 1 (goal_number a.goal) in
    let z = a.drained_variant_fingerprint in
    let g = a.finalized_variant_fingerprint in
    opt_size s.present 74 (x ++ y ++ z ++ encode_hash g)
    (omega (arith, length-append (x ++ y ++ z) (encode_hash g), length-append (x ++ y) z, length-append x y, be_length 8 a.token.0, be_length 1 (goal_number a.goal), opt_size g.present 32 g.hash (omega arith)))

-- the longest a value that may be absent can be
pub option_most : {A : Type 0} (form : A → List ℕ) (most : ℕ) (o : Option A) → ((x : A) → o ≡ Some x → length (form x) ≤ most) → length (enc_option form o) ≤ 1 + most
option_most form most None h = omega (arith, be_length 1 0)
option_most form most (Some x) h = omega (arith, length-append (be 1 1) (form x), be_length 1 1, h x refl)
