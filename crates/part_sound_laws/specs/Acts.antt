-- One step of the rules: refused as full, or the rest of the rules on the book that it leaves.
use Rattle.std.specs.Prelude.{Bool, true, false, ◌&&◌, List, [], ◌≡◌}
use Rattle.std.proofs.Math.Path.{refl, ap}
use Rattle.std.proofs.Common.{◌∙◌}
use Rattle.book.specs.Model.{Book}
use Rattle.book_answers.specs.declared.DrainedSubmission.{DrainedSubmission}
use Rattle.rules.specs.Rule.{Step, Rule, act, turn, Outcome, ended, undone, stopped, logged, guarded, grows, full, run}
use Rattle.rules.specs.Steps.{on_book, run_book}
use Rattle.book.specs.declared.refusal.Refusal.TheVariants as refusals

pub logged_none : {A : Type 0} (k : Outcome Book A) → logged [] k ≡ k
logged_none (ended s xs a) = refl
logged_none (undone n) = refl
logged_none (stopped s xs n) = refl

module _ {A : Type 0} (p : Step) (r : Rule A) (m : Book) where
  pub act_full : (grows p && full (on_book p m).after) ≡ true → run_book (act p r) m ≡ undone refusals.Full
  unfolding run
  act_full e = ap (λ (t : Bool). guarded t (logged (on_book p m).out (run_book r (on_book p m).after))) e

  pub act_on : (grows p && full (on_book p m).after) ≡ false → run_book (act p r) m ≡ logged (on_book p m).out (run_book r (on_book p m).after)
  unfolding run
  act_on e = ap (λ (t : Bool). guarded t (logged (on_book p m).out (run_book r (on_book p m).after))) e

  -- a step that hands nothing out
  pub act_silent : (grows p && full (on_book p m).after) ≡ false → (on_book p m).out ≡ [] → run_book (act p r) m ≡ run_book r (on_book p m).after
  act_silent e o = act_on e ∙ ap (λ (xs : List DrainedSubmission). logged xs (run_book r (on_book p m).after)) o ∙ logged_none (run_book r (on_book p m).after)

-- looks, turns and ends, by computation
module _ {A : Type 0} (m : Book) where
  pub run_turn : (r : Rule A) → run_book (turn r) m ≡ run_book r m
  unfolding run
  run_turn r = refl
