-- A payment: a retained submission, or a queue entry that is to become one.
use Rattle.std.specs.Prelude.{Bool, cond, ℕ}
use Rattle.rules.specs.Parts.{current_bundle, current_applied_fee, current_acknowledged, fee_unresolved, is_landed, is_input_spent}
use Rattle.book.specs.Sound.{readable_bundle, is_attach}
use Rattle.std.specs.Prelude.{Some}
use Rattle.book.specs.declared.SubmissionChainTerminality.{SubmissionChainTerminality}
use Rattle.book.specs.declared.SubmittedEntry.{SubmittedEntry}
use Rattle.book.specs.declared.SubmittedTx.{SubmittedTx}
use Rattle.book.specs.declared.PendingDelivery.{PendingDelivery}
use Rattle.tool_payments.specs.Amount.{amount_out}
use Rattle.tool_payments.specs.declared.Payment.{Payment}
use Rattle.tool_payments.specs.declared.PaymentState.{PaymentState}
use Rattle.tool_payments.specs.declared.PaymentState.TheVariants.{HasLanded, HasInputSpent, Acknowledged, UnderWay, Queued, RetainedOnly}
use Rattle.tool_payments.specs.declared.PaymentFee.{PaymentFee}
use Rattle.tool_payments.specs.declared.PaymentFee.TheVariants.{Open, NoFee, Applied}

-- ---- the state of a payment: what the chain says; else whether the wallet has its current variant; else whether an attempt
-- is live; else whether a delivery waits in the queue
abbrev pub chain_of : SubmittedEntry → SubmissionChainTerminality
chain_of e = e.state.status.chain_terminality

unfoldable pub undecided : Bool → SubmittedTx → PaymentState
undecided queued t =
    cond (current_acknowledged t.entry) Acknowledged
    (cond t.slots.active_attempt.present UnderWay
    (cond queued Queued RetainedOnly))

abbrev pub settled : SubmissionChainTerminality → PaymentState → PaymentState
settled c s = cond (is_landed c) HasLanded (cond (is_input_spent c) HasInputSpent s)

unfoldable pub state_of : Bool → SubmittedTx → PaymentState
state_of queued t = settled (chain_of t.entry) (undecided queued t)

-- ---- the fee: applied where there is a fee bundle, open where one is still asked for
abbrev pub fee_by : Bool → Bool → ℕ → PaymentFee
fee_by bearing unresolved n = cond bearing (Applied n) (cond unresolved Open NoFee)

unfoldable pub fee_of : SubmittedEntry → PaymentFee
fee_of e = fee_by e.state.current_variant.fee_bearing (fee_unresolved e) (current_applied_fee e)

-- ---- payments
unfoldable pub retained_payment : Bool → SubmittedTx → Payment
retained_payment queued t = record {
  id = Some t.entry.id;
  amount = amount_out (current_bundle t.entry);
  readable = readable_bundle (current_bundle t.entry);
  state = state_of queued t;
  fee = fee_of t.entry;
}

unfoldable pub queued_payment : PendingDelivery → Payment
queued_payment d = record {
  id = d.intent.id;
  amount = amount_out d.intent.bundle;
  readable = readable_bundle d.intent.bundle;
  state = Queued;
  fee = cond (is_attach d.intent.fee_intent.kind) Open NoFee;
}
