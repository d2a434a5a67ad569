-- `drain`: "The queue is emptied and its candidates run in order; an index counts from 0."
use Rattle.std.specs.Prelude.{ℕ, suc, Bool, false, cond, List, [], ◌∷◌}
use Rattle.base_lists.specs.Lists.{elemb}
use Rattle.book.specs.declared.PendingDelivery.{PendingDelivery}
use Rattle.std.specs.Prelude.{Option}
use Rattle.book.specs.declared.SubmissionId.{SubmissionId}
use Rattle.std.specs.Prelude.{None, Some}
use Rattle.book_answers.specs.declared.SubmissionDrainFailure.{SubmissionDrainFailure}
use Rattle.rules.specs.Calls.Candidate.{candidate}
use Rattle.rules.specs.Calls.Plan.{Memory, blank}
use Rattle.rules.specs.Rule.{done, unqueue_all, note, Rule, ◌>>=◌, ◌>>◌, book, step, end_turn}

abbrev pub is_one_of : Option SubmissionId → List ℕ → Bool
is_one_of None is = false
is_one_of (Some i) is = elemb i.0 is

-- a queue entry of a submission that was removed earlier in this drain is gone, and still counts for the indices
unfoldable pub one_candidate : ℕ → PendingDelivery → Memory → Rule Memory
unfolding candidate
one_candidate n c a = cond (is_one_of c.intent.id a.removed) (done a) (candidate n c a)

unfoldable pub candidates : ℕ → List PendingDelivery → Memory → Rule (List SubmissionDrainFailure)
unfolding one_candidate
candidates n [] a = done a.failed
candidates n (c ∷ cs) a = do
  a' ← one_candidate n c a
  end_turn
  candidates (suc n) cs a'

unfoldable pub drain : Rule (List SubmissionDrainFailure)
unfolding candidates
drain = do
  b ← book
  step (note unqueue_all)
  candidates 0 b.pending blank
