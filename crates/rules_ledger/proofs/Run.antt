-- Theorems on specs/Run.antt.
use Rattle.std.specs.Prelude.{ℕ, Bool, true, false, ◌&&◌, List, [], ◌∷◌, ◌++◌, ◌≡◌}
use Rattle.std.proofs.Math.Path.{refl}
use Rattle.std.proofs.Common.{sym, ◌∙◌}
use Rattle.book_answers.specs.declared.DrainedSubmission.{DrainedSubmission}
use Rattle.rules.specs.Rule.{done, Rule, undo, stop, look, act, turn, Outcome, ended, undone, stopped, logged, guarded, grows, full, run, carry}
use Rattle.rules.specs.Steps.{on_book, run_book}
use Rattle.rules_ledger.specs.Ledger.{Ledger}
use Rattle.rules_ledger.specs.Steps.{on_ledger}
use Rattle.rules_ledger.proofs.Steps.{law}
use Rattle.rules_ledger.specs.Tidy.{Issue, history, Tidy, issued, grown, Chained}
use Rattle.rules_ledger.specs.View.{book_of}
use Rattle.rules_ledger.specs.Run.{run_ledger, Continued, Good, agree}

pub agrees : {A : Type 0} {o : ℕ} (r : Rule A) (l : Ledger) → Tidy o l → run_book r (book_of l) ≡ carry book_of (run_ledger r l)
agrees {o = o} r l t = agree book_of on_ledger (λ b. b) on_book book_of (Tidy o) (λ l. refl) (λ p l t. (law p).agrees l t) (λ p l t. (law p).tidies l t) r l t

chained_append : (h : List Issue) (xs ys : List DrainedSubmission) → Chained h xs → Chained (grown xs h) ys → Chained h (xs ++ ys)
chained_append h [] ys c d = d
chained_append h (x ∷ xs) ys c d = (c.0, chained_append (issued x ∷ h) xs ys c.1 d)

grown_append : (h : List Issue) (xs ys : List DrainedSubmission) → grown (xs ++ ys) h ≡ grown ys (grown xs h)
grown_append h [] ys = refl
grown_append h (x ∷ xs) ys = grown_append (issued x ∷ h) xs ys

continued : {o : ℕ} (h : List Issue) (l : Ledger) (xs ys : List DrainedSubmission) → Chained h xs → Continued o (grown xs h) l ys → Continued o h l (xs ++ ys)
continued h l xs ys c k = record {
  tidy = k.tidy;
  chained = chained_append h xs ys c k.chained;
  grows = k.grows ∙ sym (grown_append h xs ys);
}

good_logged : {A : Type 0} (o : ℕ) (h : List Issue) (t : Bool) (xs : List DrainedSubmission) (k : Outcome Ledger A) → Chained h xs → Good o (grown xs h) k → Good o h (guarded t (logged xs k))
good_logged o h true xs k c g = tt
good_logged o h false xs (ended l ys v) c g = continued h l xs ys c g
good_logged o h false xs (undone n) c g = g
good_logged o h false xs (stopped l ys n) c g = continued h l xs ys c g

pub good : {A : Type 0} {o : ℕ} (r : Rule A) (l : Ledger) → Tidy o l → Good o (history l) (run_ledger r l)
unfolding run
good (done v) l t = record { tidy = t; chained = tt; grows = refl }
good (undo n) l t = tt
good (stop n) l t = record { tidy = t; chained = tt; grows = refl }
good (look k) l t = good (k (book_of l)) l t
good {o} (act p r) l t =
    good_logged o (history l) (grows p && full (book_of (on_ledger p l).after)) (on_ledger p l).out (run_ledger r (on_ledger p l).after) ((law p).chains l t)
    (rw ((law p).grows l) at (good r (on_ledger p l).after ((law p).tidies l t)))
good (turn r) l t = good r l t
