-- All payments of a book in totals.
use Rattle.std.specs.Prelude.{cond, List, [], ◌∷◌}
use Rattle.std.specs.List.{list_any, fold}
use Rattle.book.specs.declared.SubmittedTx.{SubmittedTx}
use Rattle.book.specs.declared.PendingDelivery.{PendingDelivery}
use Rattle.tool_payments.specs.Payments.{retained_payment, queued_payment}
use Rattle.tool_payments.specs.Counts.{no_totals, add_payment}
use Rattle.tool_payments.specs.declared.Payment.{Payment}
use Rattle.tool_payments.specs.declared.Totals.{Totals}
use Rattle.tool_book_summary.specs.Queue.{is_for, is_new}

-- the payment that a submission is, beside the queue ds
abbrev pub payment_of : List PendingDelivery → SubmittedTx → Payment
payment_of ds x = retained_payment (list_any (is_for x) ds) x

abbrev pub add_retained : List PendingDelivery → Totals → SubmittedTx → Totals
add_retained ds t x = add_payment t (payment_of ds x)

-- a queue entry, beside the retained submissions, before the rest of the queue
abbrev pub add_new : List SubmittedTx → List PendingDelivery → Totals → PendingDelivery → Totals
add_new ts rest t d = cond (is_new ts rest d) (add_payment t (queued_payment d)) t

abbrev pub add_queued : List SubmittedTx → Totals → List PendingDelivery → Totals
add_queued ts t [] = t
add_queued ts t (d ∷ rest) = add_queued ts (add_new ts rest t d) rest

unfoldable pub totals_of : List SubmittedTx → List PendingDelivery → Totals
totals_of ts ds = add_queued ts (fold (add_retained ds) no_totals ts) ds
