-- `relinquish_completed_attempt` "changes nothing; a live token gets Stale"; a set-aside one Applied; refusal 4: not set aside and not below next token.
use Rattle.std.specs.Prelude.{ℕ}
use Rattle.book_answers.specs.declared.SubmissionAttemptStatus.{SubmissionAttemptStatus}
use Rattle.book_answers.specs.declared.SubmissionAttemptStatus.TheVariants.{Applied, Stale}
use Rattle.rules.specs.Calls.Common.{Found, live, aside, gone, never_issued, find}
use Rattle.rules.specs.Rule.{done, Rule, undo, ◌>>=◌, book}
use Rattle.book.specs.declared.refusal.Refusal.TheVariants as refusals

abbrev pub relinquish_by : Found → Rule SubmissionAttemptStatus
relinquish_by (live s) = done Stale
relinquish_by aside = done Applied
relinquish_by gone = done Stale
relinquish_by never_issued = undo refusals.UnknownToken

unfoldable pub relinquish_completed_attempt : ℕ → Rule SubmissionAttemptStatus
unfolding find
relinquish_completed_attempt t = do
  b ← book
  relinquish_by (find t b)
