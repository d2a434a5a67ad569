-- `finalize_attempt`. Refusals 3 (the joined bundle), 4, 5, 7, 8, 9 in this order.
use Rattle.std.specs.Prelude.{ℕ, Bool, true, false, cond, not}
use Rattle.std.specs.Prelude.{Option, None, Some}
use Rattle.base_lists.specs.Bytes.{eqs}
use Rattle.book.specs.declared.SpendBundle.{SpendBundle}
use Rattle.book.specs.declared.SubmittedTx.{SubmittedTx}
use Rattle.book.specs.Sound.{sound_bundle, id_of}
use Rattle.book.specs.Zero.{is_zero_bundle}
use Rattle.book_answers.specs.declared.FinalizedSubmission.{FinalizedSubmission}
use Rattle.book_answers.specs.declared.SubmissionFeeSource.{SubmissionFeeSource}
use Rattle.book_answers.specs.declared.SubmissionFeeSource.TheVariants.{NotRequested, Joined, JoinFailed, Failed}
use Rattle.rules.specs.Calls.Common.{with_live}
use Rattle.rules.specs.Calls.Finalized.{unused_fee, current_final, attached_final}
use Rattle.rules.specs.Parts.{current_fingerprint, fee_unresolved, validate}
use Rattle.rules.specs.Rule.{done, attach, revise, finalise, Rule, undo, ◌>>◌, step}
use Rattle.book.specs.declared.refusal.Refusal.TheVariants as refusals

abbrev pub is_joined : SubmissionFeeSource → Bool
is_joined NotRequested = false
is_joined Joined = true
is_joined JoinFailed = false
is_joined Failed = false

abbrev pub is_not_requested : SubmissionFeeSource → Bool
is_not_requested NotRequested = true
is_not_requested Joined = false
is_not_requested JoinFailed = false
is_not_requested Failed = false

unfoldable pub finalize_as : ℕ → FinalizedSubmission → Rule (Option FinalizedSubmission)
finalize_as i r = do
  step (finalise i r.variant_fingerprint)
  done (Some r)

unfoldable pub finalize_with : SubmissionFeeSource → SpendBundle → SubmittedTx → Rule (Option FinalizedSubmission)
unfolding finalize_as unused_fee current_final attached_final
finalize_with source j t =
    cond (fee_unresolved t.entry)
    (cond (is_joined source)
    (do
      step (revise (id_of t) (attach j))
      finalize_as (id_of t) (attached_final j t.entry))
    (finalize_as (id_of t) (unused_fee t.slots.active_attempt.attempt.goal t.entry)))
    (cond (is_not_requested source) (finalize_as (id_of t) (current_final t.slots.active_attempt.attempt.goal t.entry)) (undo refusals.UnrequestedFee))

unfoldable pub finalize_live : SubmissionFeeSource → SpendBundle → SubmittedTx → Rule (Option FinalizedSubmission)
unfolding validate current_fingerprint finalize_with
finalize_live source j t =
    cond t.slots.active_attempt.attempt.finalized_variant_fingerprint.present (undo refusals.AlreadyFinalized)
    (cond (not (validate t.entry)) (undo refusals.InvalidSubmission)
    (cond (eqs (current_fingerprint t.entry) t.slots.active_attempt.attempt.drained_variant_fingerprint) (finalize_with source j t) (undo refusals.StaleVariant)))

-- the joined bundle is sound; with any other source it is unused, and zero
unfoldable pub sound_source : SubmissionFeeSource → SpendBundle → Bool
unfolding sound_bundle is_zero_bundle
sound_source source j = cond (is_joined source) (sound_bundle j) (is_zero_bundle j)

unfoldable pub finalize_attempt : ℕ → SubmissionFeeSource → SpendBundle → Rule (Option FinalizedSubmission)
unfolding sound_source with_live finalize_live
finalize_attempt t source j = cond (sound_source source j) (with_live t None (finalize_live source j)) (undo refusals.BadValue)
