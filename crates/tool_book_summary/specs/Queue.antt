-- Which submission a queue entry is a delivery of, and which entry is a payment of its own.
use Rattle.std.specs.Prelude.{Bool, not, ◌&&◌, List, ℕ, eqb}
use Rattle.base_lists.specs.Bytes.{eqs}
use Rattle.std.specs.List.{list_any}
use Rattle.rules.specs.Parts.{intent_of}
use Rattle.std.specs.Prelude.{is_none}
use Rattle.std.specs.Prelude.{Option}
use Rattle.book.specs.declared.SubmissionId.{SubmissionId}
use Rattle.std.specs.Prelude.{None, Some}
use Rattle.book.specs.declared.SubmittedTx.{SubmittedTx}
use Rattle.book.specs.declared.PendingDelivery.{PendingDelivery}

-- paper 01, plan 1: "With an id: the retained one" … "Without: first retained of equal intent fingerprint"
abbrev pub for_by : SubmittedTx → List ℕ → Option SubmissionId → Bool
for_by t f None = eqs t.entry.intent.intent_fingerprint f
for_by t f (Some i) = eqb t.entry.id.0 i.0

-- the queue entry is a delivery of the submission
unfoldable pub is_for : SubmittedTx → PendingDelivery → Bool
is_for t d = for_by t (intent_of d.intent) d.intent.id

abbrev pub is_taken : List SubmittedTx → PendingDelivery → Bool
is_taken ts d = list_any (λ t. is_for t d) ts

-- two new entries of one intent become one payment ("one intent queued twice: drained once")
unfoldable pub same_new : PendingDelivery → PendingDelivery → Bool
same_new d e = is_none d.intent.id && is_none e.intent.id && eqs (intent_of d.intent) (intent_of e.intent)

-- a queue entry that is a payment of its own; `rest` is the queue behind it
abbrev pub is_new : List SubmittedTx → List PendingDelivery → PendingDelivery → Bool
is_new ts rest d = not (is_taken ts d) && not (list_any (same_new d) rest)
