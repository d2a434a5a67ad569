-- What a revision makes of a submission's state, and what a new submission is.
use Rattle.std.specs.Prelude.{true, cond}
use Rattle.book.specs.Zero.{zero_hash, base_variant}
use Rattle.book.specs.Sound.{sound_bundle, is_attach}
use Rattle.book.specs.declared.SubmissionId.{SubmissionId}
use Rattle.std.specs.Prelude.{Option}
use Rattle.book.specs.declared.Height.{Height}
use Rattle.book.specs.declared.SpendBundle.{SpendBundle}
use Rattle.book.specs.declared.SubmissionChainTerminality.{SubmissionChainTerminality}
use Rattle.book.specs.declared.SubmissionChainTerminality.TheVariants.{Active}
use Rattle.book.specs.declared.FeeResolution.{FeeResolution}
use Rattle.book.specs.declared.FeeResolution.TheVariants.{Unresolved, NotRequested, Attached}
use Rattle.book.specs.declared.OptionalHash.{OptionalHash}
use Rattle.book.specs.declared.SubmissionBroadcastVariant.{SubmissionBroadcastVariant}
use Rattle.book.specs.declared.RetainedIntent.{RetainedIntent}
use Rattle.book.specs.declared.SubmissionStatus.{SubmissionStatus}
use Rattle.book.specs.declared.SubmissionState.{SubmissionState}
use Rattle.book.specs.declared.SubmittedEntry.{SubmittedEntry}
use Rattle.book.specs.declared.PendingSubmissionIntent.{PendingSubmissionIntent}
use Rattle.rules.specs.Parts.{intent_of, min_expiry}
use Rattle.rules.specs.Rule.{Revision, tighten, acknowledge, attach, terminality, reopen}

abbrev pub with_status : SubmissionStatus → SubmissionState → SubmissionState
with_status x s = record { current_variant = s.current_variant; wallet_acknowledged_variant = s.wallet_acknowledged_variant; status = x }

abbrev pub with_acknowledged : OptionalHash → SubmissionState → SubmissionState
with_acknowledged h s = record { current_variant = s.current_variant; wallet_acknowledged_variant = h; status = s.status }

abbrev pub with_variant : SubmissionBroadcastVariant → SubmissionState → SubmissionState
with_variant v s = record { current_variant = v; wallet_acknowledged_variant = s.wallet_acknowledged_variant; status = s.status }

abbrev pub with_expiry : Option Height → SubmissionStatus → SubmissionStatus
with_expiry x s = record { fee_resolution = s.fee_resolution; chain_terminality = s.chain_terminality; expiry = x }

abbrev pub with_terminality : SubmissionChainTerminality → SubmissionStatus → SubmissionStatus
with_terminality c s = record { fee_resolution = s.fee_resolution; chain_terminality = c; expiry = s.expiry }

abbrev pub with_resolution : FeeResolution → SubmissionStatus → SubmissionStatus
with_resolution r s = record { fee_resolution = r; chain_terminality = s.chain_terminality; expiry = s.expiry }

-- the applied fee is the amount asked for
abbrev pub with_joined : RetainedIntent → SpendBundle → SubmissionState → SubmissionState
with_joined p j s =
    with_status (with_resolution Attached s.status) (with_variant (record { fee_bearing = true; bundle = j; applied_fee = p.fee_intent.amount }) s)

-- a revision of the state; of the intent it reads the fee
unfoldable pub revised_state : Revision → RetainedIntent → SubmissionState → SubmissionState
unfolding min_expiry sound_bundle zero_hash
revised_state (tighten x) p s = with_status (with_expiry (min_expiry s.status.expiry x) s.status) s
revised_state (acknowledge f) p s = with_acknowledged (record { present = true; hash = f }) s
revised_state (attach j) p s = cond (sound_bundle j) (with_joined p j s) s
revised_state (terminality c) p s = with_status (with_terminality c s.status) s
revised_state reopen p s = with_status (with_terminality Active s.status) (with_acknowledged zero_hash s)

-- a change of the state: id and intent stay
abbrev pub with_state : (RetainedIntent → SubmissionState → SubmissionState) → SubmittedEntry → SubmittedEntry
with_state f e = record { id = e.id; intent = e.intent; state = f e.intent e.state }

unfoldable pub revised : Revision → SubmittedEntry → SubmittedEntry
unfolding revised_state
revised r e = with_state (revised_state r) e

-- the submission that a candidate makes: `plan_pending_submission`, its `SubmittedTx`
unfoldable pub new_entry : SubmissionId → PendingSubmissionIntent → SubmittedEntry
unfolding intent_of base_variant zero_hash
new_entry i p = record {
  id = i;
  intent = record { intent_fingerprint = intent_of p; base_bundle = p.bundle; fee_intent = p.fee_intent };
  state = record {
    current_variant = base_variant;
    wallet_acknowledged_variant = zero_hash;
    status = record { fee_resolution = cond (is_attach p.fee_intent.kind) Unresolved NotRequested; chain_terminality = Active; expiry = p.expiry };
  };
}
