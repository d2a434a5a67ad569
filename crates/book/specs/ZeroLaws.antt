-- Only the zero passes each test of Zero, and the zero passes it.
use Rattle.std.specs.Prelude.{◌≡◌, refl, true, not, List, [], ◌∷◌, ℕ}
use Rattle.std.proofs.lemmas.Bool.{false≢true, not-true}
use Rattle.std.proofs.Common.{eqb-true}
use Rattle.base_lists.specs.Lists.{full_of, is_zero}
use Rattle.base_lists.specs.Laws.{and_split, trues, full_eq}
use Rattle.std.specs.Prelude.{Option}
use Rattle.book.specs.declared.Height.{Height}
use Rattle.std.specs.Prelude.{None, Some}
use Rattle.book.specs.declared.SubmissionId.{SubmissionId}
use Rattle.book.specs.declared.Output.{Output}
use Rattle.book.specs.declared.CoinSpend.{CoinSpend}
use Rattle.book.specs.declared.SpendBundle.{SpendBundle}
use Rattle.book.specs.declared.FeeIntentKind.{FeeIntentKind}
use Rattle.book.specs.declared.FeeIntentKind.TheVariants.{AlreadyPaid, NoFeeConfigured, Attach}
use Rattle.book.specs.declared.SubmissionFeeIntent.{SubmissionFeeIntent}
use Rattle.book.specs.declared.SubmissionDeliveryGoal.{SubmissionDeliveryGoal}
use Rattle.book.specs.declared.SubmissionDeliveryGoal.TheVariants.{EnsureBroadcast, FeeUpgrade}
use Rattle.book.specs.declared.DeliveryTrigger.{DeliveryTrigger}
use Rattle.book.specs.declared.DeliveryTrigger.TheVariants.{Protocol, FreshChain, Rollback, ProviderReadiness}
use Rattle.book.specs.declared.SubmissionChainTerminality.{SubmissionChainTerminality}
use Rattle.book.specs.declared.SubmissionChainTerminality.TheVariants.{Active, InputSpent, Landed}
use Rattle.book.specs.declared.FeeResolution.{FeeResolution}
use Rattle.book.specs.declared.FeeResolution.TheVariants.{Unresolved, NotRequested, Attached}
use Rattle.book.specs.declared.OptionalHash.{OptionalHash}
use Rattle.book.specs.declared.DeliveryAttempt.{DeliveryAttempt}
use Rattle.book.specs.declared.OptionalAttempt.{OptionalAttempt}
use Rattle.book.specs.declared.AttemptSlots.{AttemptSlots}
use Rattle.book.specs.declared.SubmissionBroadcastVariant.{SubmissionBroadcastVariant}
use Rattle.book.specs.declared.RetainedIntent.{RetainedIntent}
use Rattle.book.specs.declared.SubmissionStatus.{SubmissionStatus}
use Rattle.book.specs.declared.SubmissionState.{SubmissionState}
use Rattle.book.specs.declared.SubmittedEntry.{SubmittedEntry}
use Rattle.book.specs.declared.SubmittedTx.{SubmittedTx}
use Rattle.book.specs.declared.PendingSubmissionIntent.{PendingSubmissionIntent}
use Rattle.book.specs.declared.PendingDelivery.{PendingDelivery}
use Rattle.book.specs.Zero.{zeros, zero_output, zero_spend, zero_bundle, zero_fee_intent, zero_hash, zero_attempt, no_attempt, no_slots, base_variant, zero_retained_intent, zero_status, zero_state, zero_entry, zero_submitted, zero_intent, zero_delivery, is_zero32, is_zero_output, is_zero_spend, is_zero_bundle, is_already_paid, is_ensure_broadcast, is_protocol, is_active, is_unresolved, is_zero_fee_intent, is_zero_hash, is_zero_attempt, is_no_attempt, is_no_slots, is_base_variant, is_zero_retained_intent, is_zero_status, is_zero_state, is_zero_entry, is_zero_submitted, is_zero_intent, is_zero_delivery}
use Rattle.std.specs.Prelude.{is_none}

pub number_zero : (x : ℕ) → is_zero x ≡ true → x ≡ 0
number_zero x h = eqb-true x 0 h

pub zeros_only : (n : ℕ) (xs : List ℕ) → full_of n is_zero xs ≡ true → xs ≡ zeros n
zeros_only = full_eq is_zero 0 number_zero

-- ---- kinds
pub paid_zero : (k : FeeIntentKind) → is_already_paid k ≡ true → k ≡ AlreadyPaid
paid_zero AlreadyPaid h = refl
paid_zero NoFeeConfigured h = absurd (false≢true h)
paid_zero Attach h = absurd (false≢true h)

pub goal_zero : (g : SubmissionDeliveryGoal) → is_ensure_broadcast g ≡ true → g ≡ EnsureBroadcast
goal_zero EnsureBroadcast h = refl
goal_zero FeeUpgrade h = absurd (false≢true h)

pub trigger_zero : (t : DeliveryTrigger) → is_protocol t ≡ true → t ≡ Protocol
trigger_zero Protocol h = refl
trigger_zero FreshChain h = absurd (false≢true h)
trigger_zero Rollback h = absurd (false≢true h)
trigger_zero ProviderReadiness h = absurd (false≢true h)

pub chain_zero : (c : SubmissionChainTerminality) → is_active c ≡ true → c ≡ Active
chain_zero Active h = refl
chain_zero InputSpent h = absurd (false≢true h)
chain_zero Landed h = absurd (false≢true h)

pub resolution_zero : (f : FeeResolution) → is_unresolved f ≡ true → f ≡ Unresolved
resolution_zero Unresolved h = refl
resolution_zero NotRequested h = absurd (false≢true h)
resolution_zero Attached h = absurd (false≢true h)

pub height_zero : (o : Option Height) → is_none o ≡ true → o ≡ None
height_zero None h = refl
height_zero (Some x) h = absurd (false≢true h)

pub id_zero : (o : Option SubmissionId) → is_none o ≡ true → o ≡ None
id_zero None h = refl
id_zero (Some x) h = absurd (false≢true h)

-- ---- only the zero passes
pub output_zero : (o : Output) → is_zero_output o ≡ true → o ≡ zero_output
unfolding is_zero_output zero_output
output_zero o h =
    let t = and_split (is_zero o.amount) (is_zero32 o.puzzle_hash) h in
    λ i. record { puzzle_hash = zeros_only 32 o.puzzle_hash t.1 i; amount = number_zero o.amount t.0 i }

pub spend_zero : (s : CoinSpend) → is_zero_spend s ≡ true → s ≡ zero_spend
unfolding is_zero_spend zero_spend
spend_zero s h =
    let t = trues (is_zero s.coin_len) (not s.readable ∷ is_zero s.output_count ∷ full_of 73 is_zero s.coin ∷ is_zero32 s.digest ∷ full_of 4 is_zero_output s.outputs ∷ []) h in
    λ i. record {
      coin_len = number_zero s.coin_len t.0 i;
      coin = zeros_only 73 s.coin t.1.1.1.0 i;
      digest = zeros_only 32 s.digest t.1.1.1.1.0 i;
      readable = not-true s.readable t.1.0 i;
      output_count = number_zero s.output_count t.1.1.0 i;
      outputs = full_eq is_zero_output zero_output output_zero 4 s.outputs t.1.1.1.1.1.0 i;
    }

pub bundle_zero : (b : SpendBundle) → is_zero_bundle b ≡ true → b ≡ zero_bundle
unfolding is_zero_bundle zero_bundle
bundle_zero b h =
    let t = and_split (is_zero b.count) (full_of 4 is_zero_spend b.spends) h in
    λ i. record { count = number_zero b.count t.0 i; spends = full_eq is_zero_spend zero_spend spend_zero 4 b.spends t.1 i }

pub fee_intent_zero : (f : SubmissionFeeIntent) → is_zero_fee_intent f ≡ true → f ≡ zero_fee_intent
unfolding is_zero_fee_intent zero_fee_intent
fee_intent_zero f h =
    let t = trues (is_already_paid f.kind) (is_zero f.amount ∷ is_zero32 f.target ∷ []) h in
    λ i. record { kind = paid_zero f.kind t.0 i; target = zeros_only 32 f.target t.1.1.0 i; amount = number_zero f.amount t.1.0 i }

pub hash_zero : (o : OptionalHash) → is_zero_hash o ≡ true → o ≡ zero_hash
unfolding is_zero_hash zero_hash
hash_zero o h =
    let t = and_split (not o.present) (is_zero32 o.hash) h in
    λ i. record { present = not-true o.present t.0 i; hash = zeros_only 32 o.hash t.1 i }

pub attempt_zero : (a : DeliveryAttempt) → is_zero_attempt a ≡ true → a ≡ zero_attempt
unfolding is_zero_attempt zero_attempt
attempt_zero a h =
    let t = trues (is_zero a.token.0) (is_ensure_broadcast a.goal ∷ is_zero32 a.drained_variant_fingerprint ∷ is_zero_hash a.finalized_variant_fingerprint ∷ []) h in
    λ i. record {
      token = record { 0 = number_zero a.token.0 t.0 i };
      goal = goal_zero a.goal t.1.0 i;
      drained_variant_fingerprint = zeros_only 32 a.drained_variant_fingerprint t.1.1.0 i;
      finalized_variant_fingerprint = hash_zero a.finalized_variant_fingerprint t.1.1.1.0 i;
    }

pub no_attempt_lem : (a : OptionalAttempt) → is_no_attempt a ≡ true → a ≡ no_attempt
unfolding is_no_attempt no_attempt
no_attempt_lem a h =
    let t = and_split (not a.present) (is_zero_attempt a.attempt) h in
    λ i. record { present = not-true a.present t.0 i; attempt = attempt_zero a.attempt t.1 i }

pub no_slots_lem : (s : AttemptSlots) → is_no_slots s ≡ true → s ≡ no_slots
unfolding is_no_slots no_slots
no_slots_lem s h =
    let t = and_split (is_no_attempt s.active_attempt) (is_no_attempt s.completed_attempt) h in
    λ i. record { active_attempt = no_attempt_lem s.active_attempt t.0 i; completed_attempt = no_attempt_lem s.completed_attempt t.1 i }

pub base_variant_lem : (v : SubmissionBroadcastVariant) → is_base_variant v ≡ true → v ≡ base_variant
unfolding is_base_variant base_variant
base_variant_lem v h =
    let t = trues (not v.fee_bearing) (is_zero v.applied_fee ∷ is_zero_bundle v.bundle ∷ []) h in
    λ i. record { fee_bearing = not-true v.fee_bearing t.0 i; bundle = bundle_zero v.bundle t.1.1.0 i; applied_fee = number_zero v.applied_fee t.1.0 i }

pub retained_intent_zero : (p : RetainedIntent) → is_zero_retained_intent p ≡ true → p ≡ zero_retained_intent
unfolding is_zero_retained_intent zero_retained_intent
retained_intent_zero p h =
    let t = trues (is_zero32 p.intent_fingerprint) (is_zero_bundle p.base_bundle ∷ is_zero_fee_intent p.fee_intent ∷ []) h in
    λ i. record {
      intent_fingerprint = zeros_only 32 p.intent_fingerprint t.0 i;
      base_bundle = bundle_zero p.base_bundle t.1.0 i;
      fee_intent = fee_intent_zero p.fee_intent t.1.1.0 i;
    }

pub status_zero : (s : SubmissionStatus) → is_zero_status s ≡ true → s ≡ zero_status
unfolding is_zero_status zero_status
status_zero s h =
    let t = trues (is_unresolved s.fee_resolution) (is_active s.chain_terminality ∷ is_none s.expiry ∷ []) h in
    λ i. record { fee_resolution = resolution_zero s.fee_resolution t.0 i; chain_terminality = chain_zero s.chain_terminality t.1.0 i; expiry = height_zero s.expiry t.1.1.0 i }

pub state_zero : (s : SubmissionState) → is_zero_state s ≡ true → s ≡ zero_state
unfolding is_zero_state zero_state
state_zero s h =
    let t = trues (is_base_variant s.current_variant) (is_zero_hash s.wallet_acknowledged_variant ∷ is_zero_status s.status ∷ []) h in
    λ i. record {
      current_variant = base_variant_lem s.current_variant t.0 i;
      wallet_acknowledged_variant = hash_zero s.wallet_acknowledged_variant t.1.0 i;
      status = status_zero s.status t.1.1.0 i;
    }

pub entry_zero : (e : SubmittedEntry) → is_zero_entry e ≡ true → e ≡ zero_entry
unfolding is_zero_entry zero_entry
entry_zero e h =
    let t = trues (is_zero e.id.0) (is_zero_retained_intent e.intent ∷ is_zero_state e.state ∷ []) h in
    λ i. record {
      id = record { 0 = number_zero e.id.0 t.0 i };
      intent = retained_intent_zero e.intent t.1.0 i;
      state = state_zero e.state t.1.1.0 i;
    }

pub submitted_zero : (x : SubmittedTx) → is_zero_submitted x ≡ true → x ≡ zero_submitted
unfolding is_zero_submitted zero_submitted
submitted_zero x h =
    let t = and_split (is_no_slots x.slots) (is_zero_entry x.entry) h in
    λ i. record { slots = no_slots_lem x.slots t.0 i; entry = entry_zero x.entry t.1 i }

pub intent_zero : (p : PendingSubmissionIntent) → is_zero_intent p ≡ true → p ≡ zero_intent
unfolding is_zero_intent zero_intent
intent_zero p h =
    let t = trues (is_none p.id) (is_zero_bundle p.bundle ∷ is_none p.expiry ∷ is_zero_fee_intent p.fee_intent ∷ []) h in
    λ i. record { id = id_zero p.id t.0 i; bundle = bundle_zero p.bundle t.1.0 i; expiry = height_zero p.expiry t.1.1.0 i; fee_intent = fee_intent_zero p.fee_intent t.1.1.1.0 i }

pub delivery_zero : (d : PendingDelivery) → is_zero_delivery d ≡ true → d ≡ zero_delivery
unfolding is_zero_delivery zero_delivery
delivery_zero d h =
    let t = trues (is_zero_intent d.intent) (is_protocol d.trigger ∷ is_ensure_broadcast d.goal ∷ []) h in
    λ i. record { intent = intent_zero d.intent t.0 i; trigger = trigger_zero d.trigger t.1.0 i; goal = goal_zero d.goal t.1.1.0 i }

-- ---- the zero passes
pub output_zero_is : is_zero_output zero_output ≡ true
unfolding is_zero_output zero_output
output_zero_is = refl

pub spend_zero_is : is_zero_spend zero_spend ≡ true
unfolding is_zero_spend zero_spend
spend_zero_is = refl

pub bundle_zero_is : is_zero_bundle zero_bundle ≡ true
unfolding is_zero_bundle zero_bundle
bundle_zero_is = refl

pub submitted_zero_is : is_zero_submitted zero_submitted ≡ true
unfolding is_zero_submitted zero_submitted
submitted_zero_is = refl

pub delivery_zero_is : is_zero_delivery zero_delivery ≡ true
unfolding is_zero_delivery zero_delivery
delivery_zero_is = refl
