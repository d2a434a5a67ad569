-- The answer of a drain, as docs/DRIVER.md lays it out.
use Rattle.std.specs.Prelude.{◌≡◌, List, ◌++◌, ℕ, ◌≤◌, min, length, take}
use Rattle.std.proofs.Common.{ap, ◌∙◌, arith, length-append}
use Rattle.archive_form.specs.Lengths.{id_size}
use Rattle.codec_forms.specs.Wire.{be, enc_many}
use Rattle.codec_forms.specs.Number.{be_length}
use Rattle.codec_forms.specs.Puts.{Size, opt_number_few}
use Rattle.archive_bundle_form.specs.Forms.{encode_bundle, encode_height, encode_fee_intent}
use Rattle.archive_form.specs.Encode.{encode_id}
use Rattle.std.specs.Prelude.{Option, Some}
use Rattle.book.specs.declared.SubmissionId.{SubmissionId}
use Rattle.rules.specs.Call.{stage_of, retained_id}
use Rattle.book.specs.declared.Token.{Token}
use Rattle.std.specs.Prelude.{Some}
use Rattle.book_answers.specs.declared.DrainedSubmission.{DrainedSubmission}
use Rattle.book_answers.specs.declared.SubmissionDrainFailure.{SubmissionDrainFailure}
use Rattle.book_answers.specs.declared.SubmissionDrainFailureStage.{SubmissionDrainFailureStage}
use Rattle.book_answers.specs.declared.SubmissionDrainFailureStage.TheVariants as stage
use Rattle.part_drain_answers.specs.declared.Drained.{Drained}
use Rattle.codec_answers.specs.Forms.{relationship_number, encode_token, encode_drained}

abbrev pub stage_number : SubmissionDrainFailureStage → ℕ
stage_number stage.Fingerprint = 0
stage_number stage.RetainedState = 1
stage_number stage.ExpectedOutputs = 2
stage_number stage.SubmissionId = 3

-- candidate index, retained id, candidate id, intent fingerprint, stage
unfoldable pub encode_failure : SubmissionDrainFailure → List ℕ
unfolding be encode_id
encode_failure f = be 8 f.candidate_index ++ encode_id (retained_id f) ++ encode_id (Some f.candidate_id) ++ f.intent_fingerprint ++ be 1 (stage_number (stage_of f.cause))

-- the count, and the first n of 16 cells
unfoldable pub encode_submissions : ℕ → List DrainedSubmission → List ℕ
unfolding be enc_many encode_drained
encode_submissions n a = be 1 (min n 16) ++ enc_many encode_drained (take n a)

unfoldable pub encode_failures : ℕ → List SubmissionDrainFailure → List ℕ
unfolding be enc_many encode_failure
encode_failures n a = be 1 (min n 16) ++ enc_many encode_failure (take n a)

-- what a drain hands out: its submissions, then its failures
unfoldable pub encode_handed_out : Drained → List ℕ
unfolding encode_submissions encode_failures
encode_handed_out d = encode_submissions d.submission_count d.submissions ++ encode_failures d.failure_count d.failures

-- ---- lengths
pub token_most : (t : Option Token) → length (encode_token t) ≤ 9
unfolding encode_token
token_most = opt_number_few (λ t. t.0)

pub drained_most : (d : DrainedSubmission) {i j k : ℕ} → Size (encode_bundle d.bundle) 1073 i → Size (encode_height d.expiry) 9 j → Size (encode_fee_intent d.fee_intent) 41 k → length (encode_drained d) ≤ 1149
unfolding encode_drained
drained_most d s t u =
    let a = be 8 d.id.0 in
    let b = be 8 d.attempt_token.0 in
    let p = encode_token d.predecessor_attempt_token in
    let r = be 1 (relationship_number d.relationship) in
    let x = encode_bundle d.bundle in
    let y = encode_height d.expiry in
    let z = encode_fee_intent d.fee_intent in
    omega (
      arith,
      length-append (a ++ b ++ p ++ r ++ x ++ y) z,
      length-append (a ++ b ++ p ++ r ++ x) y,
      length-append (a ++ b ++ p ++ r) x,
      length-append (a ++ b ++ p) r,
      length-append (a ++ b) p,
      length-append a b,
      be_length 8 d.id.0,
      be_length 8 d.attempt_token.0,
      token_most d.predecessor_attempt_token,
      be_length 1 (relationship_number d.relationship),
      s.is,
      s.few,
      t.is,
      t.few,
      u.is,
      u.few,
    )

pub failure_most : (n : ℕ) (i j : Option SubmissionId) (h : List ℕ) (k : ℕ) → length h ≡ 32 → length (be 8 n ++ encode_id i ++ encode_id j ++ h ++ be 1 k) ≤ 59
failure_most n i j h k e =
    let a = be 8 n in
    let b = encode_id i in
    let c = encode_id j in
    let d = be 1 k in
    omega (arith, length-append (a ++ b ++ c ++ h) d, length-append (a ++ b ++ c) h, length-append (a ++ b) c, length-append a b, be_length 8 n, be_length 1 k, id_size i, id_size j)

-- ---- what the parts of a failure are
pub failed_parts : (f : SubmissionDrainFailure) (r : Option SubmissionId) (k : ℕ) → r ≡ retained_id f → k ≡ stage_number (stage_of f.cause)
    → be 8 f.candidate_index ++ encode_id r ++ encode_id (Some f.candidate_id) ++ f.intent_fingerprint ++ be 1 k ≡ encode_failure f
unfolding encode_failure
failed_parts f r k e q =
    let x = be 8 f.candidate_index in
    let i = encode_id (Some f.candidate_id) in
    let h = f.intent_fingerprint in
    ap (λ (y : Option SubmissionId). x ++ encode_id y ++ i ++ h ++ be 1 k) e ∙ ap (λ (n : ℕ). x ++ encode_id (retained_id f) ++ i ++ h ++ be 1 n) q
