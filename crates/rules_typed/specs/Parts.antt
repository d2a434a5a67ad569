-- What the steps make of the parts of a submission is within the types.
use Rattle.std.specs.Prelude.{ℕ, zero, suc, ◌<◌, Bool, true, false, cond, List, [], ◌∷◌, ◌≡◌, refl, ltb, length, get_or, replicate}
use Rattle.std.proofs.Common.{arith}
use Rattle.base_sha256.specs.Fips.{sha256_of}
use Rattle.base_sha256.specs.Laws.{digest_length, digest_bytes}
use Rattle.archive_bundle_form.specs.Forms.{encode_bundle, variant_fingerprint, intent_fingerprint}
use Rattle.book.specs.declared.Height.{Height}
use Rattle.std.specs.Prelude.{Option}
use Rattle.std.specs.Prelude.{None, Some}
use Rattle.book.specs.declared.SubmissionId.{SubmissionId}
use Rattle.book.specs.declared.SpendBundle.{SpendBundle}
use Rattle.book.specs.declared.DeliveryAttempt.{DeliveryAttempt}
use Rattle.book.specs.declared.AttemptSlots.{AttemptSlots}
use Rattle.book.specs.declared.RetainedIntent.{RetainedIntent}
use Rattle.book.specs.declared.SubmissionState.{SubmissionState}
use Rattle.book.specs.declared.SubmittedEntry.{SubmittedEntry}
use Rattle.book.specs.declared.SubmittedTx.{SubmittedTx}
use Rattle.book.specs.declared.PendingSubmissionIntent.{PendingSubmissionIntent}
use Rattle.book.specs.declared.SubmissionDeliveryGoal.{SubmissionDeliveryGoal}
use Rattle.book.specs.Sound.{sound_bundle}
use Rattle.book.specs.Zero.{zero_hash, zero_attempt, no_attempt, no_slots, base_variant}
use Rattle.book.specs.Typed.{Every, U8, U64, Bytes, TypedId, TypedOptionalHeight, TypedHash, TypedOptionalAttempt, TypedAttempt, TypedSlots, TypedVariant, TypedRetainedIntent, TypedState, TypedEntry, TypedSubmitted, TypedIntent}
use Rattle.archive_laws.specs.Cells.{every_replicate}
use Rattle.archive_laws.specs.Bundles.{zero_bundle_typed}
use Rattle.rules.specs.Parts.{current_fingerprint, intent_of, min_expiry}
use Rattle.rules.specs.Rule.{Revision, tighten, acknowledge, attach, terminality, reopen}
use Rattle.rules.specs.Steps.{with_entry, with_slots}
use Rattle.rules.specs.Steps.Entry.{with_joined, revised_state, revised, new_entry}
use Rattle.rules.specs.Steps.Slots.{present, issue_attempt, slots_issued, slots_aside, attempt_final, slots_final, resolved}
use Rattle.rules_typed.specs.Every.{either}
use Rattle.rules_typed.specs.Typing.{TypedRevision}

-- ---- fingerprints
bytes_each : (l : List ℕ) → ((i : ℕ) → get_or l i 0 < 256) → Every U8 l
bytes_each [] h = tt
bytes_each (x ∷ l) h = (h 0, bytes_each l (λ i. h (suc i)))

digest_typed : (m : List ℕ) → Bytes 32 (sha256_of m)
digest_typed m = record { long = digest_length m; each = bytes_each (sha256_of m) (digest_bytes m) }

pub variant_typed : (b : SpendBundle) → Bytes 32 (variant_fingerprint b)
unfolding variant_fingerprint
variant_typed b = digest_typed (encode_bundle b)

pub current_typed : (e : SubmittedEntry) → Bytes 32 (current_fingerprint e)
unfolding current_fingerprint
current_typed e = variant_typed _

pub intent_typed : (p : PendingSubmissionIntent) → Bytes 32 (intent_of p)
unfolding intent_of intent_fingerprint
intent_typed p = digest_typed _

-- ---- zeros
zero32 : Bytes 32 (replicate 32 0)
zero32 = record { long = refl; each = every_replicate U8 32 0 (omega arith) }

no_hash : TypedHash zero_hash
unfolding zero_hash
no_hash = zero32

no_attempt_lem : TypedOptionalAttempt no_attempt
unfolding no_attempt zero_attempt
no_attempt_lem = record { token = omega arith; drained = zero32; finalized = no_hash }

-- ---- slots
pub no_slots_typed : TypedSlots no_slots
unfolding no_slots
no_slots_typed = record { active = no_attempt_lem; completed = no_attempt_lem }

pub issued_typed : (t : ℕ) (g : SubmissionDeliveryGoal) (v : List ℕ) (s : AttemptSlots) → U64 t → Bytes 32 v → TypedSlots s → TypedSlots (slots_issued (issue_attempt t g v) s)
unfolding slots_issued issue_attempt
issued_typed t g v s h k w = record {
  active = record { token = h; drained = k; finalized = no_hash };
  completed = either TypedOptionalAttempt s.active_attempt.present s.completed_attempt no_attempt w.completed no_attempt_lem;
}

pub aside_typed : (s : AttemptSlots) → TypedSlots s → TypedSlots (slots_aside s)
unfolding slots_aside
aside_typed s w = either TypedSlots s.active_attempt.present _ s (record { active = no_attempt_lem; completed = w.active }) w

pub final_typed : (v : List ℕ) (s : AttemptSlots) → Bytes 32 v → TypedSlots s → TypedSlots (slots_final v s)
unfolding slots_final
final_typed v s h w =
    either TypedSlots s.active_attempt.present _ s (record { active = record { token = w.active.token; drained = w.active.drained; finalized = h }; completed = w.completed }) w

pub resolved_typed : (a : DeliveryAttempt) → TypedAttempt a → Bytes 32 (resolved a)
unfolding resolved
resolved_typed a w =
    either (Bytes 32) a.finalized_variant_fingerprint.present a.finalized_variant_fingerprint.hash a.drained_variant_fingerprint w.finalized w.drained

pub slots_within : (g : AttemptSlots → AttemptSlots) → ((s : AttemptSlots) → TypedSlots s → TypedSlots (g s)) → (t : SubmittedTx) → TypedSubmitted t → TypedSubmitted (with_slots g t)
slots_within g h t w = record { slots = h t.slots w.slots; entry = w.entry }

-- ---- the other facts
min_typed : (x y : Option Height) → TypedOptionalHeight x → TypedOptionalHeight y → TypedOptionalHeight (min_expiry x y)
unfolding min_expiry
min_typed None None h k = tt
min_typed None (Some y) h k = k
min_typed (Some x) None h k = h
min_typed (Some x) (Some y) h k = either TypedOptionalHeight (ltb y.0 x.0) (Some y) (Some x) k h

revised_state_typed : (r : Revision) (p : RetainedIntent) (s : SubmissionState) → TypedRevision r → TypedRetainedIntent p → TypedState s → TypedState (revised_state r p s)
unfolding revised_state
revised_state_typed (tighten x) p s h v w = record { current = w.current; acknowledged = w.acknowledged; status = min_typed s.status.expiry x w.status h }
revised_state_typed (acknowledge f) p s h v w = record { current = w.current; acknowledged = h; status = w.status }
revised_state_typed (attach j) p s h v w = either TypedState (sound_bundle j) (with_joined p j s) s
    (record { current = record { bundle = h; applied_fee = v.fee_intent.amount }; acknowledged = w.acknowledged; status = w.status }) w
revised_state_typed (terminality c) p s h v w = record { current = w.current; acknowledged = w.acknowledged; status = w.status }
revised_state_typed reopen p s h v w = record { current = w.current; acknowledged = no_hash; status = w.status }

pub revised_typed : (r : Revision) (e : SubmittedEntry) → TypedRevision r → TypedEntry e → TypedEntry (revised r e)
unfolding revised
revised_typed r e h w = record { id = w.id; intent = w.intent; state = revised_state_typed r e.intent e.state h w.intent w.state }

pub entry_within : (r : Revision) → TypedRevision r → (t : SubmittedTx) → TypedSubmitted t → TypedSubmitted (with_entry (revised r) t)
entry_within r h t w = record { slots = w.slots; entry = revised_typed r t.entry h w.entry }

pub new_typed : (i : SubmissionId) (p : PendingSubmissionIntent) → TypedId i → TypedIntent p → TypedEntry (new_entry i p)
unfolding new_entry base_variant
new_typed i p h w = record {
  id = h;
  intent = record { fingerprint = intent_typed p; base = w.bundle; fee_intent = w.fee_intent };
  state = record { current = record { bundle = zero_bundle_typed; applied_fee = omega arith }; acknowledged = no_hash; status = w.expiry };
}
