-- Buffers that are always enough: 57,702 bytes for the book, and for each kind of answer the length that the header names. In them a call
-- answers the number that its rules say, and never 12 for want of room.
use Rattle.std.specs.Prelude.{ℕ, zero, suc, ◌+◌, ◌-◌, ◌*◌, ◌≤◌, ◌≡◌, Bool, replicate}
use Rattle.std.proofs.Math.Path.{refl, ap}
use Rattle.std.proofs.Common.{◌∙◌, suc-mul, arith}
use Rattle.std.proofs.Math.Bool.{true}
use mathlib.Core.List.{List, [], ◌∷◌, ◌++◌}
use Rattle.std.specs.Prelude.{Option, None, Some}
use Rattle.std.proofs.Math.ListN.{length, length-append, length-replicate}
use Rattle.codec_forms.specs.Wire.{be, enc_many}
use Rattle.codec_forms.specs.Number.{be_length}
use Rattle.archive_bundle_form.specs.Forms.{encode_fee_intent}
use Rattle.archive_form.specs.Encode.{encode_model, encode_book}
use Rattle.archive_laws.specs.Books.{TypedModel}
use Rattle.archive_laws.specs.Back.{back_typed}
use Rattle.archive_laws.specs.Sizes.{archive_size, bundle_size, height_size, fee_intent_size}
use Rattle.book.specs.Model.{Book, back, id_cells}
use Rattle.book.specs.SoundLaws.{view_back}
use Rattle.book.specs.Zero.{no_attempt}
use Rattle.book.specs.Typed.{Every, TypedFeeIntent, TypedAttempt}
use Rattle.book.specs.declared.DeliveryAttempt.{DeliveryAttempt}
use Rattle.book.specs.declared.SubmissionFeeIntent.{SubmissionFeeIntent}
use Rattle.rules.specs.Books.{call_book}
use Rattle.rules.specs.Calls.{rules}
use Rattle.rules_laws.specs.Sound.Run.{SoundBook, sound_call}
use Rattle.rules_typed.specs.Theorems.{within_call, typed_model}
use Rattle.rules_typed.specs.Typing.{Within, TypedCall}
use Rattle.rules.specs.Call.{Call, Value, stage_of, retained_id}
use Rattle.rules.specs.Rule.{Rule, Outcome, ended, undone, stopped, left}
use Rattle.rules.specs.Steps.{run_book}
use Rattle.codec_answers.specs.Forms.{status_number, flag_number, encode_drained}
use Rattle.codec_answers.specs.Forms.{encode_look, encode_final}
use Rattle.std.proofs.Common.{subst}
use Rattle.codec_answers.specs.Looks.{look_most, summary_most, ids_most, slot_most, final_most, option_most}
use Rattle.book.specs.Refusals.{refusal_number}
use Rattle.codec_answers.specs.Drain.{stage_number, encode_failure, drained_most, failure_most}
use Rattle.rules_answers.specs.Said.{TypedFinal, TypedDrained}
use Rattle.c_boundary.specs.Held.{book_bytes, held_in}
use Rattle.c_boundary.specs.Settle.{Left, Form, settled, ruled, boundary, written_fits, layout_length}
use Rattle.c_boundary.specs.Forms.{status_form, flag_form, height_form, ids_form, attempt_form, look_form, summary_form, fee_intent_form, final_form, drain_form}
use Rattle.book.specs.declared.Height.{Height}
use Rattle.book_answers.specs.declared.BookSummary.{BookSummary}
use Rattle.book_answers.specs.declared.SubmissionAttemptStatus.{SubmissionAttemptStatus}
use Rattle.book_answers.specs.declared.SubmissionLook.{SubmissionLook}
use Rattle.book_answers.specs.declared.SubmissionDrainFailure.{SubmissionDrainFailure}
use Rattle.book_answers.specs.declared.FinalizedSubmission.{FinalizedSubmission}
use Rattle.book_answers.specs.declared.DrainedSubmission.{DrainedSubmission}

-- ---- the book
pub encode_back : (m : Book) → encode_book (back m) ≡ encode_model m
unfolding encode_book
encode_back m = ap encode_model (view_back m)

pub book_length : (m : Book) → length (book_bytes m) ≡ 8 + length (encode_model m)
unfolding book_bytes
book_length m = layout_length (encode_model m)

pub enough : (m : Book) → TypedModel m → length (book_bytes m) ≤ 57702
enough m t = omega (arith, book_length m, archive_size (back m) (back_typed m t), ap length (encode_back m))

-- 0, or the refusal's number
abbrev pub number_by : {A : Type 0} → Outcome Book A → ℕ
number_by (ended m xs v) = 0
number_by (undone n) = refusal_number n
number_by (stopped m xs n) = refusal_number n

-- the answer has at most k bytes
abbrev pub AnswerFits : {A : Type 0} → Form A → ℕ → Outcome Book A → Type 0
AnswerFits form k (ended m xs v) = length (form xs v) ≤ k
AnswerFits form k (undone n) = Unit {0}
AnswerFits form k (stopped m xs n) = Unit {0}

module _ {A : Type 0} (form : Form A) (d a : List ℕ) (h : 57702 ≤ length d) where
  settled_enough : (m : Book) (o : Outcome Book A) → TypedModel (left m o) → AnswerFits form (length a) o → (settled form d a o).number ≡ number_by o
  unfolding settled
  settled_enough m (ended k xs v) t w = ap (λ (l : Left). l.number) (written_fits 0 k (form xs v) d a (omega (arith, enough k t)) w)
  settled_enough m (undone n) t w = refl
  settled_enough m (stopped k xs n) t w = ap (λ (l : Left). l.number) (written_fits (refusal_number n) k [] d a (omega (arith, enough k t)) (omega arith))

  -- the number is the rules' own
  pub call_enough : (m : Book) (r : Rule A) → held_in d ≡ Some m → TypedModel (left m (run_book r m)) → AnswerFits form (length a) (run_book r m) → (boundary form r d a).number ≡ number_by (run_book r m)
  unfolding boundary
  call_enough m r e t w = ap (λ (x : Option Book). (ruled form r d a x).number) e ∙ settled_enough m (run_book r m) t w

-- the same for a call with arguments within their types, on a sound book within the types: the book that it leaves is one, too
pub typed_call_enough : (form : Form Value) (d a : List ℕ) → 57702 ≤ length d → (c : Call) (m : Book) → held_in d ≡ Some m → SoundBook m → Within m → TypedCall c → AnswerFits form (length a) (run_book (rules encode_model c) m)
    → (boundary form (rules encode_model c) d a).number ≡ number_by (run_book (rules encode_model c) m)
unfolding call_book
typed_call_enough form d a h c m e s w t f =
    call_enough form d a h m (rules encode_model c) e (typed_model (call_book encode_model c m) (within_call encode_model c m t w) (sound_call encode_model c m s)) f

-- ---- the answers
abbrev pub OnSome : {A : Type 0} → (A → Type 0) → Option A → Type 0
OnSome P None = Unit {0}
OnSome P (Some x) = P x

module _ (xs : List DrainedSubmission) where
  pub status_enough : (v : SubmissionAttemptStatus) → length (status_form xs v) ≤ 1
  status_enough v = omega (arith, be_length 1 (status_number v))

  pub flag_enough : (v : Bool) → length (flag_form xs v) ≤ 1
  flag_enough v = omega (arith, be_length 1 (flag_number v))

  pub height_enough : (v : Option Height) → length (height_form xs v) ≤ 9
  unfolding height_form
  height_enough v = height_size v

  pub ids_enough : (is : List ℕ) → length is ≤ 64 → length (ids_form xs is) ≤ 513
  unfolding ids_form
  ids_enough is h = ids_most (id_cells 64 is) (omega (arith, length-append is (replicate (64 - length is) 0), length-replicate {A = ℕ} (64 - length is) 0))

  pub attempt_enough : (o : Option DeliveryAttempt) → OnSome TypedAttempt o → length (attempt_form xs o) ≤ 75
  unfolding attempt_form no_attempt
  attempt_enough None t = slot_most no_attempt refl refl
  attempt_enough (Some a) t = slot_most (record { present = true; attempt = a }) t.drained.long t.finalized.long

  pub look_enough : (o : Option SubmissionLook) → length (look_form xs o) ≤ 39
  unfolding look_form
  look_enough o = option_most encode_look 38 o (λ l e. look_most l)

  pub summary_enough : (v : BookSummary) → length (summary_form xs v) ≤ 57
  unfolding summary_form
  summary_enough v = summary_most v

  pub fee_intent_enough : (o : Option SubmissionFeeIntent) → OnSome TypedFeeIntent o → length (fee_intent_form xs o) ≤ 42
  unfolding fee_intent_form
  fee_intent_enough o t = option_most encode_fee_intent 41 o (λ f e. fee_intent_size f (subst (OnSome TypedFeeIntent) e t))

pub final_enough : (xs : List DrainedSubmission) (o : Option FinalizedSubmission) → OnSome TypedFinal o → length (final_form xs o) ≤ 1117
unfolding final_form
final_enough xs o t = option_most encode_final 1116 o (λ f e.
    let y = subst (OnSome TypedFinal) e t in
    final_most f (record { is = refl; few = bundle_size f.bundle y.bundle }) y.fingerprint)

drained_few : (d : DrainedSubmission) → TypedDrained d → length (encode_drained d) ≤ 1149
drained_few d t =
    drained_most d (record { is = refl; few = bundle_size d.bundle t.bundle }) (record { is = refl; few = height_size d.expiry }) (record { is = refl; few = fee_intent_size d.fee_intent t.fee_intent })

failure_few : (f : SubmissionDrainFailure) → length f.intent_fingerprint ≡ 32 → length (encode_failure f) ≤ 59
unfolding encode_failure
failure_few f h = failure_most f.candidate_index (retained_id f) (Some f.candidate_id) f.intent_fingerprint (stage_number (stage_of f.cause)) h

submissions_few : (n : ℕ) (xs : List DrainedSubmission) → length xs ≤ n → Every TypedDrained xs → length (enc_many encode_drained xs) ≤ n * 1149
unfolding enc_many
submissions_few n [] h t = omega arith
submissions_few zero (d ∷ xs) h t = absurd (omega arith)
submissions_few (suc n) (d ∷ xs) h t =
    omega (arith, suc-mul n 1149, length-append (encode_drained d) (enc_many encode_drained xs), drained_few d t.0, submissions_few n xs (omega arith) t.1)

failures_few : (n : ℕ) (fs : List SubmissionDrainFailure) → length fs ≤ n → Every (λ f. length f.intent_fingerprint ≡ 32) fs → length (enc_many encode_failure fs) ≤ n * 59
unfolding enc_many
failures_few n [] h t = omega arith
failures_few zero (f ∷ fs) h t = absurd (omega arith)
failures_few (suc n) (f ∷ fs) h t =
    omega (arith, suc-mul n 59, length-append (encode_failure f) (enc_many encode_failure fs), failure_few f t.0, failures_few n fs (omega arith) t.1)

pub drain_enough : (xs : List DrainedSubmission) (fs : List SubmissionDrainFailure) → length xs ≤ 16 → Every TypedDrained xs → length fs ≤ 16 → Every (λ f. length f.intent_fingerprint ≡ 32) fs → length (drain_form xs fs) ≤ 19330
unfolding drain_form
drain_enough xs fs h t k u =
    let a = be 1 (length xs) in
    let s = enc_many encode_drained xs in
    let b = be 1 (length fs) in
    let f = enc_many encode_failure fs in
    omega (arith, length-append (a ++ s) (b ++ f), length-append a s, length-append b f, be_length 1 (length xs), be_length 1 (length fs), submissions_few 16 xs h t, failures_few 16 fs k u)
