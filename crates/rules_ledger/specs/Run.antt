-- Any rules whatever, run on the book that a tidy ledger foretells and on that ledger: they come to the same, the book left is again the one
-- foretold, the ledger left is tidy again, and what was handed out continues the history, also where the rules were stopped.
use Rattle.std.specs.Prelude.{ℕ, Bool, true, false, ◌&&◌, List, ◌≡◌}
use Rattle.std.proofs.Math.Path.{refl}
use Rattle.book.specs.Model.{Book}
use Rattle.book_answers.specs.declared.DrainedSubmission.{DrainedSubmission}
use Rattle.rules.specs.Rule.{done, Step, Effect, Rule, undo, stop, look, act, turn, Outcome, ended, undone, stopped, logged, guarded, grows, full, run, carry, answered, left, issued_by}
use Rattle.rules_ledger.specs.Law.{map_effect}
use Rattle.rules_ledger.specs.Ledger.{Ledger}
use Rattle.rules_ledger.specs.Steps.{on_ledger}
use Rattle.rules_ledger.specs.Tidy.{Issue, history, Tidy, grown, Chained}
use Rattle.rules_ledger.specs.View.{book_of}

abbrev pub run_ledger : {A : Type 0} → Rule A → Ledger → Outcome Ledger A
run_ledger = run book_of on_ledger

-- a ledger that goes on from the history h by what was handed out
pub record Continued (o : ℕ) (h : List Issue) (l : Ledger) (xs : List DrainedSubmission) : Type 0 where
  pub tidy : Tidy o l
  pub chained : Chained h xs
  pub grows : history l ≡ grown xs h

-- what an outcome on the ledger has to satisfy
abbrev pub Good : {A : Type 0} → ℕ → List Issue → Outcome Ledger A → Type 0
Good o h (ended l xs a) = Continued o h l xs
Good o h (undone n) = Unit {0}
Good o h (stopped l xs n) = Continued o h l xs

logged_carry : {S T A : Type 0} (f : S → T) (t : Bool) (xs : List DrainedSubmission) (k : Outcome S A) → guarded t (logged xs (carry f k)) ≡ carry f (guarded t (logged xs k))
logged_carry f true xs k = refl
logged_carry f false xs (ended s ys v) = refl
logged_carry f false xs (undone n) = refl
logged_carry f false xs (stopped s ys n) = refl

-- two states that show the same book, the steps on them agreeing: any rules come to the same on both
module _ {S T : Type 0} (show_s : S → Book) (on_s : Step → S → Effect S) (show_t : T → Book) (on_t : Step → T → Effect T) (f : S → T) (Fit : S → Type 0)
    (shows : (s : S) → show_t (f s) ≡ show_s s) (steps : (p : Step) (s : S) → Fit s → on_t p (f s) ≡ map_effect f (on_s p s))
    (fits : (p : Step) (s : S) → Fit s → Fit (on_s p s).after) where
  pub agree : {A : Type 0} (r : Rule A) (s : S) → Fit s → run show_t on_t r (f s) ≡ carry f (run show_s on_s r s)
  unfolding run
  agree (done v) s h = refl
  agree (undo n) s h = refl
  agree (stop n) s h = refl
  agree (look k) s h = rw (shows s) (agree (k (show_s s)) s h)
  agree (act p r) s h =
      rw (steps p s h, shows (on_s p s).after, agree r (on_s p s).after (fits p s h))
      (logged_carry f (grows p && full (show_s (on_s p s).after)) (on_s p s).out (run show_s on_s r (on_s p s).after))
  agree (turn r) s h = agree r s h

-- the ledger that a call leaves
pub good_left : {A : Type 0} {o : ℕ} (l : Ledger) (k : Outcome Ledger A) → Tidy o l → Good o (history l) k → Continued o (history l) (left l k) (issued_by k)
good_left l (ended l' xs v) t g = g
good_left l (undone n) t g = record { tidy = t; chained = tt; grows = refl }
good_left l (stopped l' xs n) t g = g

pub left_carry : {S T A : Type 0} (f : S → T) (s : S) (k : Outcome S A) → left (f s) (carry f k) ≡ f (left s k)
left_carry f s (ended s' xs v) = refl
left_carry f s (undone n) = refl
left_carry f s (stopped s' xs n) = refl

pub answered_carry : {S T A : Type 0} (f : S → T) (k : Outcome S A) → answered (carry f k) ≡ answered k
answered_carry f (ended s xs v) = refl
answered_carry f (undone n) = refl
answered_carry f (stopped s xs n) = refl

pub issued_carry : {S T A : Type 0} (f : S → T) (k : Outcome S A) → issued_by (carry f k) ≡ issued_by k
issued_carry f (ended s xs v) = refl
issued_carry f (undone n) = refl
issued_carry f (stopped s xs n) = refl
