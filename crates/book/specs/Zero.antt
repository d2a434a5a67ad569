-- The zero of each part, which every unused cell holds, and the test for it.
use Rattle.std.specs.Prelude.{Bool, true, false, not, ◌&&◌, List, ℕ, replicate}
use Rattle.base_lists.specs.Lists.{full_of, is_zero}
use Rattle.std.specs.Prelude.{is_none}
use Rattle.std.specs.Prelude.{None}
use Rattle.book.specs.declared.Output.{Output}
use Rattle.book.specs.declared.CoinSpend.{CoinSpend}
use Rattle.book.specs.declared.SpendBundle.{SpendBundle}
use Rattle.book.specs.declared.FeeIntentKind.{FeeIntentKind}
use Rattle.book.specs.declared.FeeIntentKind.TheVariants.{AlreadyPaid, NoFeeConfigured, Attach}
use Rattle.book.specs.declared.SubmissionFeeIntent.{SubmissionFeeIntent}
use Rattle.book.specs.declared.SubmissionDeliveryGoal.{SubmissionDeliveryGoal}
use Rattle.book.specs.declared.SubmissionDeliveryGoal.TheVariants.{EnsureBroadcast, FeeUpgrade}
use Rattle.book.specs.declared.DeliveryTrigger.{DeliveryTrigger}
use Rattle.book.specs.declared.DeliveryTrigger.TheVariants.{Protocol, FreshChain, Rollback, ProviderReadiness}
use Rattle.book.specs.declared.SubmissionChainTerminality.{SubmissionChainTerminality}
use Rattle.book.specs.declared.SubmissionChainTerminality.TheVariants.{Active, InputSpent, Landed}
use Rattle.book.specs.declared.FeeResolution.{FeeResolution}
use Rattle.book.specs.declared.FeeResolution.TheVariants.{Unresolved, NotRequested, Attached}
use Rattle.book.specs.declared.OptionalHash.{OptionalHash}
use Rattle.book.specs.declared.DeliveryAttempt.{DeliveryAttempt}
use Rattle.book.specs.declared.OptionalAttempt.{OptionalAttempt}
use Rattle.book.specs.declared.AttemptSlots.{AttemptSlots}
use Rattle.book.specs.declared.SubmissionBroadcastVariant.{SubmissionBroadcastVariant}
use Rattle.book.specs.declared.RetainedIntent.{RetainedIntent}
use Rattle.book.specs.declared.SubmissionStatus.{SubmissionStatus}
use Rattle.book.specs.declared.SubmissionState.{SubmissionState}
use Rattle.book.specs.declared.SubmittedEntry.{SubmittedEntry}
use Rattle.book.specs.declared.SubmittedTx.{SubmittedTx}
use Rattle.book.specs.declared.PendingSubmissionIntent.{PendingSubmissionIntent}
use Rattle.book.specs.declared.PendingDelivery.{PendingDelivery}

abbrev pub zeros : ℕ → List ℕ
zeros n = replicate n 0

unfoldable pub zero_output : Output
zero_output = record { puzzle_hash = zeros 32; amount = 0 }

unfoldable pub zero_spend : CoinSpend
unfolding zero_output
zero_spend = record { coin_len = 0; coin = zeros 73; digest = zeros 32; readable = false; output_count = 0; outputs = replicate 4 zero_output }

unfoldable pub zero_bundle : SpendBundle
unfolding zero_spend
zero_bundle = record { count = 0; spends = replicate 4 zero_spend }

unfoldable pub zero_fee_intent : SubmissionFeeIntent
zero_fee_intent = record { kind = AlreadyPaid; target = zeros 32; amount = 0 }

unfoldable pub zero_hash : OptionalHash
zero_hash = record { present = false; hash = zeros 32 }

unfoldable pub zero_attempt : DeliveryAttempt
unfolding zero_hash
zero_attempt = record { token = record { 0 = 0 }; goal = EnsureBroadcast; drained_variant_fingerprint = zeros 32; finalized_variant_fingerprint = zero_hash }

unfoldable pub no_attempt : OptionalAttempt
unfolding zero_attempt
no_attempt = record { present = false; attempt = zero_attempt }

unfoldable pub no_slots : AttemptSlots
unfolding no_attempt
no_slots = record { active_attempt = no_attempt; completed_attempt = no_attempt }

-- `SubmissionBroadcastVariant::Base`
unfoldable pub base_variant : SubmissionBroadcastVariant
unfolding zero_bundle
base_variant = record { fee_bearing = false; bundle = zero_bundle; applied_fee = 0 }

unfoldable pub zero_retained_intent : RetainedIntent
unfolding zero_bundle zero_fee_intent
zero_retained_intent = record { intent_fingerprint = zeros 32; base_bundle = zero_bundle; fee_intent = zero_fee_intent }

unfoldable pub zero_status : SubmissionStatus
zero_status = record { fee_resolution = Unresolved; chain_terminality = Active; expiry = None }

unfoldable pub zero_state : SubmissionState
unfolding base_variant zero_hash zero_status
zero_state = record { current_variant = base_variant; wallet_acknowledged_variant = zero_hash; status = zero_status }

unfoldable pub zero_entry : SubmittedEntry
unfolding zero_retained_intent zero_state
zero_entry = record { id = record { 0 = 0 }; intent = zero_retained_intent; state = zero_state }

unfoldable pub zero_submitted : SubmittedTx
unfolding no_slots zero_entry
zero_submitted = record { slots = no_slots; entry = zero_entry }

unfoldable pub zero_intent : PendingSubmissionIntent
unfolding zero_bundle zero_fee_intent
zero_intent = record { id = None; bundle = zero_bundle; expiry = None; fee_intent = zero_fee_intent }

unfoldable pub zero_delivery : PendingDelivery
unfolding zero_intent
zero_delivery = record { intent = zero_intent; trigger = Protocol; goal = EnsureBroadcast }

-- ---- the tests
abbrev pub is_zero32 : List ℕ → Bool
is_zero32 = full_of 32 is_zero

unfoldable pub is_zero_output : Output → Bool
is_zero_output o = is_zero o.amount && is_zero32 o.puzzle_hash

unfoldable pub is_zero_spend : CoinSpend → Bool
unfolding is_zero_output
is_zero_spend s =
    is_zero s.coin_len && not s.readable && is_zero s.output_count && full_of 73 is_zero s.coin && is_zero32 s.digest
    && full_of 4 is_zero_output s.outputs

unfoldable pub is_zero_bundle : SpendBundle → Bool
unfolding is_zero_spend
is_zero_bundle b = is_zero b.count && full_of 4 is_zero_spend b.spends

abbrev pub is_already_paid : FeeIntentKind → Bool
is_already_paid AlreadyPaid = true
is_already_paid NoFeeConfigured = false
is_already_paid Attach = false

abbrev pub is_ensure_broadcast : SubmissionDeliveryGoal → Bool
is_ensure_broadcast EnsureBroadcast = true
is_ensure_broadcast FeeUpgrade = false

abbrev pub is_protocol : DeliveryTrigger → Bool
is_protocol Protocol = true
is_protocol FreshChain = false
is_protocol Rollback = false
is_protocol ProviderReadiness = false

abbrev pub is_active : SubmissionChainTerminality → Bool
is_active Active = true
is_active InputSpent = false
is_active Landed = false

abbrev pub is_unresolved : FeeResolution → Bool
is_unresolved Unresolved = true
is_unresolved NotRequested = false
is_unresolved Attached = false

unfoldable pub is_zero_fee_intent : SubmissionFeeIntent → Bool
is_zero_fee_intent f = is_already_paid f.kind && is_zero f.amount && is_zero32 f.target

unfoldable pub is_zero_hash : OptionalHash → Bool
is_zero_hash h = not h.present && is_zero32 h.hash

unfoldable pub is_zero_attempt : DeliveryAttempt → Bool
unfolding is_zero_hash
is_zero_attempt a =
    is_zero a.token.0 && is_ensure_broadcast a.goal && is_zero32 a.drained_variant_fingerprint
    && is_zero_hash a.finalized_variant_fingerprint

unfoldable pub is_no_attempt : OptionalAttempt → Bool
unfolding is_zero_attempt
is_no_attempt a = not a.present && is_zero_attempt a.attempt

unfoldable pub is_no_slots : AttemptSlots → Bool
unfolding is_no_attempt
is_no_slots s = is_no_attempt s.active_attempt && is_no_attempt s.completed_attempt

unfoldable pub is_base_variant : SubmissionBroadcastVariant → Bool
unfolding is_zero_bundle
is_base_variant v = not v.fee_bearing && is_zero v.applied_fee && is_zero_bundle v.bundle

unfoldable pub is_zero_retained_intent : RetainedIntent → Bool
unfolding is_zero_bundle is_zero_fee_intent
is_zero_retained_intent p = is_zero32 p.intent_fingerprint && is_zero_bundle p.base_bundle && is_zero_fee_intent p.fee_intent

unfoldable pub is_zero_status : SubmissionStatus → Bool
is_zero_status s = is_unresolved s.fee_resolution && is_active s.chain_terminality && is_none s.expiry

unfoldable pub is_zero_state : SubmissionState → Bool
unfolding is_base_variant is_zero_hash is_zero_status
is_zero_state s = is_base_variant s.current_variant && is_zero_hash s.wallet_acknowledged_variant && is_zero_status s.status

unfoldable pub is_zero_entry : SubmittedEntry → Bool
unfolding is_zero_retained_intent is_zero_state
is_zero_entry e = is_zero e.id.0 && is_zero_retained_intent e.intent && is_zero_state e.state

unfoldable pub is_zero_submitted : SubmittedTx → Bool
unfolding is_no_slots is_zero_entry
is_zero_submitted t = is_no_slots t.slots && is_zero_entry t.entry

unfoldable pub is_zero_intent : PendingSubmissionIntent → Bool
unfolding is_zero_bundle is_zero_fee_intent
is_zero_intent p = is_none p.id && is_zero_bundle p.bundle && is_none p.expiry && is_zero_fee_intent p.fee_intent

unfoldable pub is_zero_delivery : PendingDelivery → Bool
unfolding is_zero_intent
is_zero_delivery d = is_zero_intent d.intent && is_protocol d.trigger && is_ensure_broadcast d.goal
