-- The archive of a book as bytes. Paper 01, "Archive form": numbers big-endian, six sections in order, each after a one-byte count;
-- an optional part follows a count 0 or 1. Bundle, expiry and fee intent are in `spend`.
use Rattle.std.specs.Prelude.{List, ◌++◌, ℕ}
use Rattle.codec_forms.specs.Wire.{be, enc_list, enc_opt, enc_opt_number}
use Rattle.archive_bundle_form.specs.Forms.{encode_bundle, encode_height, encode_fee_intent}
use Rattle.book.specs.Model.{Book, view}
use Rattle.std.specs.Prelude.{Option}
use Rattle.book.specs.declared.SubmissionId.{SubmissionId}
use Rattle.book.specs.declared.SubmissionDeliveryGoal.{SubmissionDeliveryGoal}
use Rattle.book.specs.declared.SubmissionDeliveryGoal.TheVariants.{EnsureBroadcast, FeeUpgrade}
use Rattle.book.specs.declared.DeliveryTrigger.{DeliveryTrigger}
use Rattle.book.specs.declared.DeliveryTrigger.TheVariants.{Protocol, FreshChain, Rollback, ProviderReadiness}
use Rattle.book.specs.declared.SubmissionChainTerminality.{SubmissionChainTerminality}
use Rattle.book.specs.declared.SubmissionChainTerminality.TheVariants.{Active, InputSpent, Landed}
use Rattle.book.specs.declared.FeeResolution.{FeeResolution}
use Rattle.book.specs.declared.FeeResolution.TheVariants.{Unresolved, NotRequested, Attached}
use Rattle.book.specs.declared.OptionalHash.{OptionalHash}
use Rattle.book.specs.declared.DeliveryAttempt.{DeliveryAttempt}
use Rattle.book.specs.declared.OptionalAttempt.{OptionalAttempt}
use Rattle.book.specs.declared.AttemptSlots.{AttemptSlots}
use Rattle.book.specs.declared.SubmissionBroadcastVariant.{SubmissionBroadcastVariant}
use Rattle.book.specs.declared.RetainedIntent.{RetainedIntent}
use Rattle.book.specs.declared.SubmissionState.{SubmissionState}
use Rattle.book.specs.declared.SubmittedTx.{SubmittedTx}
use Rattle.book.specs.declared.PendingDelivery.{PendingDelivery}
use Rattle.book.specs.declared.BookData.{BookData}

-- ---- kinds by number
-- goal: 0 EnsureBroadcast, 1 FeeUpgrade
abbrev pub goal_number : SubmissionDeliveryGoal → ℕ
goal_number EnsureBroadcast = 0
goal_number FeeUpgrade = 1

-- trigger: 0 to 3 in `DeliveryTrigger` order
abbrev pub trigger_number : DeliveryTrigger → ℕ
trigger_number Protocol = 0
trigger_number FreshChain = 1
trigger_number Rollback = 2
trigger_number ProviderReadiness = 3

-- chain: 0 Active, 1 InputSpent, 2 Landed
abbrev pub chain_number : SubmissionChainTerminality → ℕ
chain_number Active = 0
chain_number InputSpent = 1
chain_number Landed = 2

-- durable mark: 0 unresolved, 1 not requested, 2 attached
abbrev pub resolution_number : FeeResolution → ℕ
resolution_number Unresolved = 0
resolution_number NotRequested = 1
resolution_number Attached = 2

-- ---- parts of a retained submission
-- an optional fingerprint: the finalised one of an attempt, the acknowledged one of a submission
unfoldable pub encode_hash : OptionalHash → List ℕ
unfolding enc_opt
encode_hash h = enc_opt h.present h.hash

-- attempt: token, goal, drained fingerprint, finalised fingerprint
unfoldable pub encode_attempt : DeliveryAttempt → List ℕ
unfolding be encode_hash
encode_attempt a =
    be 8 a.token.0 ++ be 1 (goal_number a.goal) ++ a.drained_variant_fingerprint ++ encode_hash a.finalized_variant_fingerprint

unfoldable pub encode_slot : OptionalAttempt → List ℕ
unfolding enc_opt encode_attempt
encode_slot a = enc_opt a.present (encode_attempt a.attempt)

-- the live attempt, then the set-aside one
unfoldable pub encode_slots : AttemptSlots → List ℕ
unfolding encode_slot
encode_slots s = encode_slot s.active_attempt ++ encode_slot s.completed_attempt

-- the fee bundle with its applied fee
unfoldable pub encode_variant : SubmissionBroadcastVariant → List ℕ
unfolding be enc_opt encode_bundle
encode_variant v = enc_opt v.fee_bearing (encode_bundle v.bundle ++ be 8 v.applied_fee)

-- intent and state. Paper 01's order takes them by turns: intent fingerprint, base bundle and fee intent are of the intent, the fee bundle and what
-- stands behind it else (durable mark, acknowledged fingerprint, chain, expiry) of the state
unfoldable pub encode_facts : RetainedIntent → SubmissionState → List ℕ
unfolding be encode_bundle encode_variant encode_fee_intent encode_hash encode_height
encode_facts p s =
    p.intent_fingerprint ++ encode_bundle p.base_bundle ++ encode_variant s.current_variant
    ++ be 1 (resolution_number s.status.fee_resolution) ++ encode_fee_intent p.fee_intent ++ encode_hash s.wallet_acknowledged_variant
    ++ be 1 (chain_number s.status.chain_terminality) ++ encode_height s.status.expiry

-- retained: id, the two attempts, intent and state
unfoldable pub encode_submitted : SubmittedTx → List ℕ
unfolding be encode_slots encode_facts
encode_submitted t = be 8 t.entry.id.0 ++ encode_slots t.slots ++ encode_facts t.entry.intent t.entry.state

-- ---- the queue
unfoldable pub encode_id : Option SubmissionId → List ℕ
encode_id = enc_opt_number (λ i. i.0)

-- queue: id, bundle, expiry, fee intent, trigger, goal
unfoldable pub encode_delivery : PendingDelivery → List ℕ
unfolding be encode_id encode_bundle encode_height encode_fee_intent
encode_delivery d =
    encode_id d.intent.id ++ encode_bundle d.intent.bundle ++ encode_height d.intent.expiry ++ encode_fee_intent d.intent.fee_intent
    ++ be 1 (trigger_number d.trigger) ++ be 1 (goal_number d.goal)

-- ---- the book
-- numbers: next token, next submission id
unfoldable pub encode_numbers : Book → List ℕ
unfolding be
encode_numbers m = be 1 2 ++ be 8 m.next_token.0 ++ be 8 m.next_id.0

-- numbers, retained, queue, retirements, rollback height, replayed ids
unfoldable pub encode_model : Book → List ℕ
unfolding be enc_list encode_numbers encode_submitted encode_delivery encode_height
encode_model m =
    encode_numbers m ++ enc_list encode_submitted m.submitted ++ enc_list encode_delivery m.pending ++ enc_list (be 8) m.retired
    ++ encode_height m.rollback ++ enc_list (be 8) m.replayed

unfoldable pub encode_book : BookData → List ℕ
unfolding view encode_model
encode_book b = encode_model (view b)
