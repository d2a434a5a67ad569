-- What `relinquish_completed_attempt` answers, by the place of the token.
use Rattle.std.specs.Prelude.{ℕ, ◌≡◌}
use Rattle.std.proofs.Math.Path.{refl, ap}
use Rattle.std.proofs.Common.{sym, ◌∙◌}
use Rattle.book.specs.Model.{Book}
use Rattle.book_answers.specs.declared.SubmissionAttemptStatus.TheVariants.{Applied, Stale}
use Rattle.book_answers.specs.declared.SubmissionAttemptStatus.{SubmissionAttemptStatus}
use Rattle.rules.specs.Calls.Common.{Found}
use Rattle.rules.specs.Calls.RelinquishCompletedAttempt.{relinquish_by, relinquish_completed_attempt}
use Rattle.rules.specs.Rule.{run}
use Rattle.rules.specs.Steps.{run_book}
use Rattle.part_lookup.specs.declared.AttemptPlace.{AttemptPlace}
use Rattle.part_lookup.specs.declared.AttemptPlace.TheVariants.{Live, SetAside, Gone, NeverIssued}
use Rattle.part_lookup.specs.Lookup.{attempt_place}
use Rattle.part_lookup.specs.LookupLaws.{found_at}
use Rattle.part_attempt_answers.specs.Live.{inactive, find_by}

-- the status of a token that was issued
abbrev pub relinquished : AttemptPlace → SubmissionAttemptStatus
relinquished (Live k) = Stale
relinquished (SetAside k) = Applied
relinquished Gone = Stale
relinquished NeverIssued = Stale

module _ (t : ℕ) (m : Book) {p : AttemptPlace} (here : p ≡ attempt_place t m) where
  pub relinquish_run : {v : SubmissionAttemptStatus} → v ≡ relinquished p → inactive m v p ≡ run_book (relinquish_completed_attempt t) m
  unfolding relinquish_completed_attempt run
  relinquish_run e = ap (λ (v : SubmissionAttemptStatus). inactive m v p) e ∙ go p ∙ ap (λ (x : Found). run_book (relinquish_by x) m) (sym (find_by t m here))
    where
      go : (x : AttemptPlace) → inactive m (relinquished x) x ≡ run_book (relinquish_by (found_at m x)) m
      go (Live k) = refl
      go (SetAside k) = refl
      go Gone = refl
      go NeverIssued = refl
