-- `acknowledge_attempt`: refusals 4, 6, 8; "Acknowledging also drops queue entries of that id."
use Rattle.std.specs.Prelude.{ℕ, cond, not}
use Rattle.base_lists.specs.Bytes.{eqs}
use Rattle.book.specs.declared.SubmittedTx.{SubmittedTx}
use Rattle.book.specs.Sound.{id_of}
use Rattle.book_answers.specs.declared.SubmissionAttemptStatus.{SubmissionAttemptStatus}
use Rattle.book_answers.specs.declared.SubmissionAttemptStatus.TheVariants.{Applied, Stale}
use Rattle.rules.specs.Calls.Common.{with_live}
use Rattle.rules.specs.Parts.{current_fingerprint}
use Rattle.rules.specs.Rule.{done, acknowledge, unqueue, note, revise, set_aside, Rule, undo, ◌>>◌, step}
use Rattle.rules.specs.Steps.Slots.{resolved}
use Rattle.book.specs.declared.refusal.Refusal.TheVariants as refusals

unfoldable pub acknowledge_live : SubmittedTx → Rule SubmissionAttemptStatus
unfolding current_fingerprint resolved
acknowledge_live s =
    cond (not s.slots.active_attempt.attempt.finalized_variant_fingerprint.present) (undo refusals.NotFinalized)
    (cond (eqs (current_fingerprint s.entry) (resolved s.slots.active_attempt.attempt))
    (do
      step (revise (id_of s) (acknowledge (resolved s.slots.active_attempt.attempt)))
      step (set_aside (id_of s))
      step (note (unqueue (id_of s)))
      done Applied)
    (undo refusals.StaleVariant))

unfoldable pub acknowledge_attempt : ℕ → Rule SubmissionAttemptStatus
unfolding with_live acknowledge_live
acknowledge_attempt t = with_live t Stale acknowledge_live
