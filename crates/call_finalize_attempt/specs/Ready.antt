-- What the laws of `finalize_attempt` start from.
use Rattle.std.specs.Prelude.{ℕ, ◌<◌, true, ◌≡◌, length}
use Rattle.book.specs.Model.{view}
use Rattle.book.specs.Sound.{soundb}
use Rattle.book.specs.declared.BookData.{BookData}
use Rattle.book.specs.declared.SubmittedTx.{SubmittedTx}
use Rattle.part_attempt_answers.specs.Live.{at}

-- s stands at place k of the sound book b
pub record Standing (b : BookData) (k : ℕ) (s : SubmittedTx) : Type 0 where
  pub sound : soundb b ≡ true
  pub within : k < length (view b).submitted
  pub read : s ≡ at (view b) k
