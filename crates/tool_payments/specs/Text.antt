-- A payment as a line, and the totals, as text.
use Rattle.std.specs.Prelude.{Bool, true, false, cond, List, ◌++◌, ℕ, eqb, get_or}
use Rattle.tool_text.specs.Ascii.{ascii}
use Rattle.tool_text.specs.Numbers.{decimal, padded, number_line}
use Rattle.std.specs.Prelude.{Option}
use Rattle.book.specs.declared.SubmissionId.{SubmissionId}
use Rattle.std.specs.Prelude.{None, Some}
use Rattle.tool_payments.specs.declared.Sum.{Sum}
use Rattle.tool_payments.specs.declared.Payment.{Payment}
use Rattle.tool_payments.specs.declared.PaymentState.{PaymentState}
use Rattle.tool_payments.specs.declared.PaymentState.TheVariants.{HasLanded, HasInputSpent, Acknowledged, UnderWay, Queued, RetainedOnly}
use Rattle.tool_payments.specs.declared.PaymentFee.{PaymentFee}
use Rattle.tool_payments.specs.declared.PaymentFee.TheVariants.{Open, NoFee, Applied}
use Rattle.tool_payments.specs.declared.Totals.{Totals}

-- a sum in decimal
unfoldable pub sum_text : Sum → List ℕ
unfolding decimal padded
sum_text s = cond (eqb s.high 0) (decimal s.low) (decimal s.high ++ padded 18 s.low)

unfoldable pub sum_line : List ℕ → Sum → List ℕ
unfolding sum_text
sum_line label s = label ++ sum_text s ++ ascii "\n"

abbrev pub id_or_none : Option SubmissionId → List ℕ
id_or_none None = ascii "none"
id_or_none (Some i) = decimal i.0

abbrev pub readable_text : Bool → List ℕ
readable_text true = ascii ", "
readable_text false = ascii " and what an unreadable run pays, "

abbrev pub state_text : PaymentState → List ℕ
state_text HasLanded = ascii "landed"
state_text HasInputSpent = ascii "input spent"
state_text Acknowledged = ascii "acknowledged"
state_text UnderWay = ascii "under way"
state_text Queued = ascii "queued"
state_text RetainedOnly = ascii "retained only"

abbrev pub fee_text : PaymentFee → List ℕ
fee_text Open = ascii ", fee open\n"
fee_text NoFee = ascii ", fee none\n"
fee_text (Applied n) = number_line (ascii ", fee applied ") n

-- a payment on one line
unfoldable pub payment_text : Payment → List ℕ
unfolding decimal number_line sum_text
payment_text p =
    ascii "  id "
    ++ id_or_none p.id
    ++ ascii ": amount out "
    ++ sum_text p.amount
    ++ readable_text p.readable
    ++ state_text p.state
    ++ fee_text p.fee

-- how many payments are in each state
unfoldable pub counts_text : List ℕ → List ℕ
unfolding number_line
counts_text c =
    number_line (ascii "  landed: ") (get_or c 0 0)
    ++ number_line (ascii "  input spent: ") (get_or c 1 0)
    ++ number_line (ascii "  acknowledged: ") (get_or c 2 0)
    ++ number_line (ascii "  under way: ") (get_or c 3 0)
    ++ number_line (ascii "  queued: ") (get_or c 4 0)
    ++ number_line (ascii "  retained only: ") (get_or c 5 0)

unfoldable pub totals_text : Totals → List ℕ
unfolding counts_text sum_line
totals_text t =
    counts_text t.counts
    ++ sum_line (ascii "  amount out in all: ") t.amount
    ++ sum_line (ascii "  fees applied in all: ") t.fees
