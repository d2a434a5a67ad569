-- Counts and sums of payments.
use Rattle.std.specs.Prelude.{ℕ, ◌+◌, ◌%◌, ◌^◌, get_or, set, replicate}
use Rattle.tool_payments.specs.Amount.{sum_of, add_sum}
use Rattle.tool_payments.specs.declared.Payment.{Payment}
use Rattle.tool_payments.specs.declared.PaymentState.{PaymentState}
use Rattle.tool_payments.specs.declared.PaymentState.TheVariants.{HasLanded, HasInputSpent, Acknowledged, UnderWay, Queued, RetainedOnly}
use Rattle.tool_payments.specs.declared.PaymentFee.{PaymentFee}
use Rattle.tool_payments.specs.declared.PaymentFee.TheVariants.{Open, NoFee, Applied}
use Rattle.tool_payments.specs.declared.Totals.{Totals}

-- the place of a state's count
abbrev pub state_number : PaymentState → ℕ
state_number HasLanded = 0
state_number HasInputSpent = 1
state_number Acknowledged = 2
state_number UnderWay = 3
state_number Queued = 4
state_number RetainedOnly = 5

abbrev pub applied_fee : PaymentFee → ℕ
applied_fee Open = 0
applied_fee NoFee = 0
applied_fee (Applied n) = n

-- a count stays below 33, so the remainder changes nothing
abbrev pub one_more : ℕ → ℕ
one_more n = n % 2 ^ 32 + 1

abbrev pub no_totals : Totals
no_totals = record { counts = replicate 6 0; amount = sum_of 0; fees = sum_of 0 }

unfoldable pub add_payment : Totals → Payment → Totals
add_payment t p = record {
  counts = set t.counts (state_number p.state) (one_more (get_or t.counts (state_number p.state) 0));
  amount = add_sum t.amount p.amount;
  fees = add_sum t.fees (sum_of (applied_fee p.fee));
}
