-- Theorems on specs/Told.antt.
use Rattle.std.specs.Prelude.{ℕ, Bool, true, false, ◌&&◌, List}
use Rattle.book_answers.specs.declared.DrainedSubmission.{DrainedSubmission}
use Rattle.rules.specs.Rule.{Step, Rule, done, undo, stop, look, act, turn, Outcome, ended, undone, stopped, logged, guarded, grows, full, run, left}
use Rattle.rules_ledger.proofs.Account.Fates.{settles}
use Rattle.rules_ledger.specs.Events.{Told, on_told, told_book, run_told}
use Rattle.rules_ledger.proofs.Steps.{law}
use Rattle.rules_ledger.specs.Told.{Kept}

abbrev Ends : {A : Type 0} → ℕ → Outcome Told A → Type 0
Ends o (ended s xs a) = Kept o s
Ends o (undone n) = Unit {0}
Ends o (stopped s xs n) = Kept o s

ends_logged : {A : Type 0} (o : ℕ) (t : Bool) (xs : List DrainedSubmission) (k : Outcome Told A) → Ends o k → Ends o (guarded t (logged xs k))
ends_logged o true xs k h = tt
ends_logged o false xs (ended s ys a) h = h
ends_logged o false xs (undone n) h = tt
ends_logged o false xs (stopped s ys n) h = h

step_kept : {o : ℕ} (p : Step) (s : Told) → Kept o s → Kept o (on_told p s).after
unfolding on_told
step_kept p s h = record { tidy = (law p).tidies s.ledger h.tidy; settled = settles p s.ledger s.events h.tidy h.settled }

run_kept : {A : Type 0} {o : ℕ} (r : Rule A) (s : Told) → Kept o s → Ends o (run_told r s)
unfolding run
run_kept (done a) s h = h
run_kept (undo n) s h = tt
run_kept (stop n) s h = h
run_kept (look k) s h = run_kept (k (told_book s)) s h
run_kept {o = o} (act p r) s h = ends_logged o (grows p && full (told_book (on_told p s).after)) (on_told p s).out (run_told r (on_told p s).after) (run_kept r (on_told p s).after (step_kept p s h))
run_kept (turn r) s h = run_kept r s h

-- what a call leaves
pub left_kept : {A : Type 0} {o : ℕ} (r : Rule A) (s : Told) → Kept o s → Kept o (left s (run_told r s))
left_kept {A} {o} r s h = go (run_told r s) (run_kept r s h)
  where
    go : (k : Outcome Told A) → Ends o k → Kept o (left s k)
    go (ended x xs a) e = e
    go (undone n) e = h
    go (stopped x xs n) e = e
