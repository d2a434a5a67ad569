-- The decision is what the rules answer and leave behind the tests of a live token.
use Rattle.std.specs.Prelude.{ℕ, Bool, true, false, ◌≡◌, Option, Some, Result, Ok, Err}
use Rattle.std.proofs.Math.Path.{refl}
use Rattle.std.proofs.Common.{ap, ◌∙◌}
use Rattle.book.specs.Model.{view, back}
use Rattle.book.specs.declared.BookData.{BookData}
use Rattle.book.specs.declared.SpendBundle.{SpendBundle}
use Rattle.book.specs.declared.SubmittedTx.{SubmittedTx}
use Rattle.book_answers.specs.declared.FinalizedSubmission.{FinalizedSubmission}
use Rattle.book.specs.declared.refusal.Refusal.{Refusal}
use Rattle.book_answers.specs.declared.SubmissionFeeSource.{SubmissionFeeSource}
use Rattle.rules.specs.Parts.{fee_unresolved}
use Rattle.rules.specs.Rule.{undone}
use Rattle.rules.specs.Steps.{run_book}
use Rattle.rules.specs.Calls.Finalized.{unused_fee, current_final}
use Rattle.rules.specs.Calls.FinalizeAttempt.{is_joined, is_not_requested, finalize_with}
use Rattle.part_replies.specs.Reply.{reply}
use Rattle.part_replies.specs.declared.Reply.{Reply}
use Rattle.part_change.specs.Changes.{stored_at}
use Rattle.call_finalize_attempt.specs.declared.Decision.{Decision}
use Rattle.call_finalize_attempt.specs.Ready.{Standing}
use Rattle.call_finalize_attempt.specs.Decision.{decision, by_tests}
use Rattle.call_finalize_attempt.specs.Finalizing.{finalize_answer_lem, attach_answer}
use Rattle.call_finalize_attempt.specs.Tests.{fee_attached_lem, fee_unused, fee_current, fee_unasked}

-- the reply where the submission is stored at its place
abbrev pub stored : BookData → ℕ → Decision → Reply (Option FinalizedSubmission) BookData
stored b k d = record { answer = Ok (Some (d.last)); book = back (stored_at k d.next (view b)) }

module _ (b : BookData) (k : ℕ) (s : SubmittedTx) (h : Standing b k s) (source : SubmissionFeeSource) (j : SpendBundle) where
  abbrev told : Result Decision Refusal → Reply (Option FinalizedSubmission) BookData
  told (Ok d) = stored b k d
  told (Err n) = reply b (undone n)

  abbrev ruled : Reply (Option FinalizedSubmission) BookData
  ruled = reply b (run_book (finalize_with source j s) (view b))

  by_tests_lem : (o t n : Bool) → fee_unresolved s.entry ≡ o → is_joined source ≡ t → is_not_requested source ≡ n → told (by_tests j s o t n) ≡ ruled
  by_tests_lem true true n p q r = attach_answer b k s h j refl refl ∙ ap (reply b) (fee_attached_lem source j s (view b) p q)
  by_tests_lem true false n p q r = finalize_answer_lem b k s h (unused_fee s.slots.active_attempt.attempt.goal s.entry) refl ∙ ap (reply b) (fee_unused source j s (view b) p q)
  by_tests_lem false t true p q r = finalize_answer_lem b k s h (current_final s.slots.active_attempt.attempt.goal s.entry) refl ∙ ap (reply b) (fee_current source j s (view b) p r)
  by_tests_lem false t false p q r = ap (reply b) (fee_unasked source j s (view b) p r)

  by_decision : told (decision source j s) ≡ ruled
  unfolding decision
  by_decision = by_tests_lem (fee_unresolved s.entry) (is_joined source) (is_not_requested source) refl refl refl

  pub decided_refused : {n : Refusal} → Err n ≡ decision source j s → reply b (undone n) ≡ ruled
  decided_refused e = ap told e ∙ by_decision

  pub decided_stored : {d : Decision} → Ok d ≡ decision source j s → stored b k d ≡ ruled
  decided_stored e = ap told e ∙ by_decision
