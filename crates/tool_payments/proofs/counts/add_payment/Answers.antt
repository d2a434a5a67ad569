-- Straight code: the count of the state, the amount and the fee.
use Rattle.std.proofs.Common.{◌≡◌, refl}
use denote.Enum.Declared.{tag_of}
use Rattle.tool_payments.specs.contracts.PaymentState.{the_type}
use Rattle.tool_payments.specs.declared.PaymentState.{PaymentState}
use Rattle.tool_payments.specs.declared.PaymentState.TheVariants.{HasLanded, HasInputSpent, Acknowledged, UnderWay, Queued, RetainedOnly}
use Rattle.tool_payments.specs.Counts.{state_number, add_payment}
use Rattle.tool_payments.proofs.counts.add_payment.Goals as goal

place : (s : PaymentState) → tag_of the_type s ≡ state_number s
place HasLanded = refl
place HasInputSpent = refl
place Acknowledged = refl
place UnderWay = refl
place Queued = refl
place RetainedOnly = refl

pub returns : goal.returns
unfolding add_payment
returns c = rw (c.add-2.ensures, c.add.ensures, c.one_more.ensures, c.from.ensures, c.applied_fee.ensures, place c.args.p.state)
