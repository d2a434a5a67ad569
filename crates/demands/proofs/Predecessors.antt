-- Theorems on specs/Predecessors.antt.
use Rattle.std.specs.Prelude.{ℕ, List, [], true, ◌≡◌, refl}
use Rattle.std.proofs.Common.{sym, ap, ◌∙◌, arith}
use Rattle.base_lists.specs.Laws.{take_cells}
use Rattle.book.specs.Model.{Book}
use Rattle.rules.specs.Call.{Drain, failures}
use Rattle.rules.specs.Calls.{rules}
use Rattle.rules.specs.Calls.Drain.{drain}
use Rattle.rules.specs.Rule.{Outcome, ended, undone, stopped, issued_by, issued_mapped}
use Rattle.book_answers.specs.Zero.{zero_drained}
use Rattle.part_drain_answers.specs.DrainReply.{drained_by}
use Rattle.part_replies.specs.Reply.{outcome_of}
use Rattle.std.specs.Result.{is_ok}
use Rattle.std.proofs.lemmas.Bool.{false≢true}
use Rattle.book_answers.specs.declared.DrainedSubmission.{DrainedSubmission}
use Rattle.book_answers.specs.declared.SubmissionDrainFailure.{SubmissionDrainFailure}
use Rattle.rules_ledger.specs.Tidy.{Issue, grown, Chained}
use Rattle.submission.specs.declared.SubmissionBook.{SubmissionBook}
use Rattle.submission.specs.Answers.{drain_reply_to}
use Rattle.submission.specs.Book.{outcome}
use Rattle.submission.specs.Calls.{outcome_is_rules}
use Rattle.demands.specs.Predecessors.{submissions_in, handed_out}

-- what a drain issues in a list is what its own rules issue
drain_issues : (s : SubmissionBook) → issued_by (outcome s Drain) ≡ issued_by (outcome_of s.parts drain)
unfolding rules
drain_issues s = ap issued_by (outcome_is_rules s Drain failures drain refl) ∙ issued_mapped failures (outcome_of s.parts drain)

-- what is handed out: all that was issued, or nothing beside a refusal
abbrev told : Outcome Book (List SubmissionDrainFailure) → List DrainedSubmission
told (ended m xs v) = xs
told (undone n) = []
told (stopped m xs n) = []

in_answer : (o : Outcome Book (List SubmissionDrainFailure)) → submissions_in (drained_by o) ≡ told o
in_answer (ended m xs v) = take_cells 16 zero_drained xs
in_answer (undone n) = refl
in_answer (stopped m xs n) = refl

handed_out_lem : (s : SubmissionBook) → handed_out (drain_reply_to s drain) ≡ told (outcome_of s.parts drain)
handed_out_lem s = in_answer (outcome_of s.parts drain)

-- the answer hands out what the drain issued, or nothing where it was refused
handed : (h : List Issue) (o : Outcome Book (List SubmissionDrainFailure)) → Chained h (issued_by o) → Chained h (told o)
handed h (ended m xs v) k = k
handed h (undone n) k = tt
handed h (stopped m xs n) k = tt

-- each names as predecessor the last token issued to its submission before, or none
pub named : (h : List Issue) (s : SubmissionBook) → Chained h (issued_by (outcome s Drain)) → Chained h (handed_out (drain_reply_to s drain))
named h s k = rw (handed_out_lem s) (handed h (outcome_of s.parts drain) (rw (drain_issues s) at k))

-- an accepted drain hands out all that it issued
accepted : (o : Outcome Book (List SubmissionDrainFailure)) → is_ok (drained_by o) ≡ true → issued_by o ≡ told o
accepted (ended m xs v) q = refl
accepted (undone n) q = absurd (false≢true q)
accepted (stopped m xs n) q = absurd (false≢true q)

pub grown_by : (h : List Issue) (s : SubmissionBook) → is_ok (drain_reply_to s drain).answer ≡ true → grown (issued_by (outcome s Drain)) h ≡ grown (handed_out (drain_reply_to s drain)) h
grown_by h s q = ap (λ xs. grown xs h) (drain_issues s ∙ accepted (outcome_of s.parts drain) q ∙ sym (handed_out_lem s))
