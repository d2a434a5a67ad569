-- The answers of docs/DRIVER.md that have no archive form.
use Rattle.std.specs.Prelude.{Bool, true, false, List, ◌++◌, ℕ, min, take}
use Rattle.codec_forms.specs.Wire.{be, enc_many, enc_opt_number}
use Rattle.archive_bundle_form.specs.Forms.{encode_bundle, encode_height, encode_fee_intent}
use Rattle.book.specs.declared.Ids.{Ids}
use Rattle.book.specs.Refusals.{refusal_number}
use Rattle.book.specs.declared.refusal.Refusal.{Refusal}
use Rattle.std.specs.Prelude.{Result, Ok, Err}
use Rattle.archive_form.specs.Encode.{chain_number, resolution_number}
use Rattle.book_answers.specs.declared.BookSummary.{BookSummary}
use Rattle.book_answers.specs.declared.SubmissionLook.{SubmissionLook}
use Rattle.book_answers.specs.declared.SubmissionAttemptStatus.{SubmissionAttemptStatus}
use Rattle.book_answers.specs.declared.SubmissionAttemptStatus.TheVariants.{Applied, Stale}
use Rattle.book_answers.specs.declared.FeeSourceDisposition.{FeeSourceDisposition}
use Rattle.book_answers.specs.declared.FeeSourceDisposition.TheVariants.{Attached, Unused, NotRequested}
use Rattle.book_answers.specs.declared.FinalizedSubmission.{FinalizedSubmission}
use Rattle.book_answers.specs.declared.SubmissionAttemptRelationship.{SubmissionAttemptRelationship}
use Rattle.book_answers.specs.declared.SubmissionAttemptRelationship.TheVariants.{Initial, Exact, NewerFeeBearing, Other}
use Rattle.book.specs.declared.Token.{Token}
use Rattle.std.specs.Prelude.{Option}
use Rattle.std.specs.Prelude.{None, Some}
use Rattle.book_answers.specs.declared.DrainedSubmission.{DrainedSubmission}

abbrev pub flag_number : Bool → ℕ
flag_number false = 0
flag_number true = 1

-- 0, or the refusal's number
abbrev pub answer_number : {A : Type 0} → Result A Refusal → ℕ
answer_number (Ok v) = 0
answer_number (Err n) = refusal_number n

-- a value that may be absent: 0, or 1 and the value
abbrev pub enc_option : {A : Type 0} → (A → List ℕ) → Option A → List ℕ
enc_option form None = be 1 0
enc_option form (Some x) = be 1 1 ++ form x

abbrev pub status_number : SubmissionAttemptStatus → ℕ
status_number Applied = 0
status_number Stale = 1

abbrev pub disposition_number : FeeSourceDisposition → ℕ
disposition_number Attached = 0
disposition_number Unused = 1
disposition_number NotRequested = 2

abbrev pub relationship_number : SubmissionAttemptRelationship → ℕ
relationship_number Initial = 0
relationship_number Exact = 1
relationship_number NewerFeeBearing = 2
relationship_number Other = 3

-- count, ids of 8 bytes
unfoldable pub encode_ids : Ids 64 → List ℕ
unfolding be enc_many
encode_ids i = be 1 (min i.count 64) ++ enc_many (be 8) (take i.count i.items)

unfoldable pub encode_token : Option Token → List ℕ
encode_token = enc_opt_number (λ t. t.0)

-- what a submission holds: chain, acknowledged, fee mark, applied fee, expiry, live token, set-aside token
unfoldable pub encode_look : SubmissionLook → List ℕ
unfolding be encode_token encode_height
encode_look l =
    be 1 (chain_number l.chain_terminality)
    ++ be 1 (flag_number l.acknowledged)
    ++ be 1 (resolution_number l.fee_resolution)
    ++ be 8 l.applied_fee
    ++ encode_height l.expiry
    ++ encode_token l.active_attempt_token
    ++ encode_token l.completed_attempt_token

-- the book in numbers: next token, next id, retained, queued, retired, replayed, rollback height
unfoldable pub encode_summary : BookSummary → List ℕ
unfolding be encode_height
encode_summary s =
    be 8 s.next_delivery_attempt_token.0
    ++ be 8 s.next_submission_id.0
    ++ be 8 s.submitted_count
    ++ be 8 s.pending_count
    ++ be 8 s.retired_count
    ++ be 8 s.replayed_count
    ++ encode_height s.rollback_height

-- id, token, predecessor, relationship, bundle, expiry, fee intent
unfoldable pub encode_drained : DrainedSubmission → List ℕ
unfolding be encode_token encode_bundle encode_height encode_fee_intent
encode_drained d =
    be 8 d.id.0
    ++ be 8 d.attempt_token.0
    ++ encode_token d.predecessor_attempt_token
    ++ be 1 (relationship_number d.relationship)
    ++ encode_bundle d.bundle
    ++ encode_height d.expiry
    ++ encode_fee_intent d.fee_intent

-- bundle, applied fee, warning, disposition, variant fingerprint, should-broadcast
unfoldable pub encode_final : FinalizedSubmission → List ℕ
unfolding be encode_bundle
encode_final f =
    encode_bundle f.bundle
    ++ be 8 f.applied_fee
    ++ be 1 (flag_number f.warning)
    ++ be 1 (disposition_number f.disposition)
    ++ f.variant_fingerprint
    ++ be 1 (flag_number f.should_broadcast)
