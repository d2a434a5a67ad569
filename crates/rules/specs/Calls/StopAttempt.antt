-- `stop_attempt`: "Stopping changes the two attempt slots of that one submission and nothing else."
use Rattle.std.specs.Prelude.{ℕ}
use Rattle.book.specs.declared.SubmittedTx.{SubmittedTx}
use Rattle.book.specs.Sound.{id_of}
use Rattle.book_answers.specs.declared.SubmissionAttemptStatus.{SubmissionAttemptStatus}
use Rattle.book_answers.specs.declared.SubmissionAttemptStatus.TheVariants.{Applied, Stale}
use Rattle.rules.specs.Calls.Common.{with_live}
use Rattle.rules.specs.Rule.{done, set_aside, Rule, ◌>>◌, step}

unfoldable pub stop_live : SubmittedTx → Rule SubmissionAttemptStatus
stop_live s = do
  step (set_aside (id_of s))
  done Applied

unfoldable pub stop_attempt : ℕ → Rule SubmissionAttemptStatus
unfolding with_live stop_live
stop_attempt t = with_live t Stale stop_live
