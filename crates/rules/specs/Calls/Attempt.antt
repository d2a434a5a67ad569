-- `attempt`: the live attempt of a token, or none; it has no refusal 4.
use Rattle.std.specs.Prelude.{ℕ}
use Rattle.std.specs.Prelude.{Option, None, Some}
use Rattle.book.specs.declared.DeliveryAttempt.{DeliveryAttempt}
use Rattle.rules.specs.Calls.Common.{Found, live, aside, gone, never_issued, find}
use Rattle.rules.specs.Rule.{done, Rule, ◌>>=◌, book}

abbrev pub attempt_by : Found → Option DeliveryAttempt
attempt_by (live s) = Some s.slots.active_attempt.attempt
attempt_by aside = None
attempt_by gone = None
attempt_by never_issued = None

unfoldable pub attempt : ℕ → Rule (Option DeliveryAttempt)
unfolding find
attempt t = do
  b ← book
  done (attempt_by (find t b))
