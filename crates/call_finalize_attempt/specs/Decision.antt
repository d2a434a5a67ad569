-- What `finalize_attempt` decides of a submission whose tests 5, 7 and 8 are passed, from the submission alone.
use Rattle.std.specs.Prelude.{Bool, cond, ◌≡◌, Result, Ok, Err}
use Rattle.book.specs.declared.SpendBundle.{SpendBundle}
use Rattle.book.specs.declared.SubmittedTx.{SubmittedTx}
use Rattle.book_answers.specs.declared.SubmissionFeeSource.{SubmissionFeeSource}
use Rattle.rules.specs.Parts.{fee_unresolved}
use Rattle.rules.specs.Rule.{attach}
use Rattle.rules.specs.Steps.{with_entry, with_slots}
use Rattle.rules.specs.Steps.Entry.{revised}
use Rattle.rules.specs.Steps.Slots.{slots_final}
use Rattle.rules.specs.Calls.Finalized.{unused_fee, current_final, attached_final}
use Rattle.rules.specs.Calls.FinalizeAttempt.{is_joined, is_not_requested}
use Rattle.book_answers.specs.declared.FinalizedSubmission.{FinalizedSubmission}
use Rattle.book.specs.declared.refusal.Refusal.{Refusal}
use Rattle.book.specs.declared.refusal.Refusal.TheVariants as refusals
use Rattle.call_finalize_attempt.specs.declared.Decision.{Decision}

-- r is answered, and its fingerprint goes into the live attempt
abbrev pub final_as : FinalizedSubmission → SubmittedTx → Decision
final_as r s = record { last = r; next = with_slots (slots_final r.variant_fingerprint) s }

module _ (j : SpendBundle) (s : SubmittedTx) where
  abbrev pub as_attached : Decision
  as_attached = final_as (attached_final j s.entry) (with_entry (revised (attach j)) s)

  abbrev pub as_unused : Decision
  as_unused = final_as (unused_fee s.slots.active_attempt.attempt.goal s.entry) s

  abbrev pub as_current : Decision
  as_current = final_as (current_final s.slots.active_attempt.attempt.goal s.entry) s

-- by an open fee, a joined bundle, no source; refused 9: a fee source without an unresolved fee
abbrev pub by_tests : SpendBundle → SubmittedTx → Bool → Bool → Bool → Result Decision Refusal
by_tests j s o t n = cond o (cond t (Ok (as_attached j s)) (Ok (as_unused j s))) (cond n (Ok (as_current j s)) (Err refusals.UnrequestedFee))

unfoldable pub decision : SubmissionFeeSource → SpendBundle → SubmittedTx → Result Decision Refusal
decision source j s = by_tests j s (fee_unresolved s.entry) (is_joined source) (is_not_requested source)

module _ (source : SubmissionFeeSource) (j : SpendBundle) (s : SubmittedTx) where
  pub decides : {o t n : Bool} → o ≡ fee_unresolved s.entry → t ≡ is_joined source → n ≡ is_not_requested source → by_tests j s o t n ≡ decision source j s
  unfolding decision
  decides p q r i = by_tests j s (p i) (q i) (r i)
