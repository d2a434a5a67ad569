-- `abandon_attempt`: the submission of a live token is removed.
use Rattle.std.specs.Prelude.{ℕ}
use Rattle.book.specs.declared.SubmittedTx.{SubmittedTx}
use Rattle.book.specs.Sound.{id_of}
use Rattle.book_answers.specs.declared.SubmissionAttemptStatus.{SubmissionAttemptStatus}
use Rattle.book_answers.specs.declared.SubmissionAttemptStatus.TheVariants.{Applied, Stale}
use Rattle.rules.specs.Calls.Common.{with_live, withdraw}
use Rattle.rules.specs.Rule.{done, Rule, ◌>>◌, end_turn}

unfoldable pub abandon_live : SubmittedTx → Rule SubmissionAttemptStatus
unfolding withdraw
abandon_live s = do
  withdraw (id_of s)
  end_turn
  done Applied

unfoldable pub abandon_attempt : ℕ → Rule SubmissionAttemptStatus
unfolding with_live abandon_live
abandon_attempt t = with_live t Stale abandon_live
