-- For paced rules the test after each growth refuses exactly as the paper's sentence says.
use Rattle.std.specs.Prelude.{Bool, true, false, ◌&&◌, ◌||◌, List, ◌≡◌, refl}
use Rattle.std.proofs.Common.{true≢false, ap, ap₂, ◌∙◌, le-ltb}
use Rattle.std.specs.List.{list_any}
use Rattle.book.specs.Model.{Book}
use Rattle.book_answers.specs.declared.DrainedSubmission.{DrainedSubmission}
use Rattle.rules.specs.Rule.{done, Step, Rule, undo, stop, look, act, turn, Outcome, logged, guarded, grows, full, run}
use Rattle.rules.specs.Steps.{on_book, run_book}
use Rattle.rules_laws.specs.Sound.Facts.{Short}
use Rattle.rules_laws.specs.Sound.Run.{short_step}
use Rattle.rules_laws.specs.StepRule.Free.{run_free, books_after, PacedTo, Settled}
use Rattle.rules_laws.specs.StepRule.Stays.{stays}

over : {A : Type 0} (r : Rule A) (b : Book) → PacedTo Settled true r → full b ≡ true → list_any full (books_after r b) ≡ true
unfolding books_after
over (done a) b p h = absurd (true≢false p)
over (undo n) b p h = absurd (true≢false p.0)
over (stop n) b p h = ap (λ (x : Bool). x || false) h
over (look k) b p h = over (k b) b (p b) h
over (act q r) b p h = over r (on_book q b).after p.1 (stays q b p.0 h)
over (turn r) b p h = ap (λ (x : Bool). x || list_any full (books_after r b)) h

logged_guarded : {A : Type 0} (xs : List DrainedSubmission) (t : Bool) (k : Outcome Book A) → logged xs (guarded t k) ≡ guarded t (logged xs k)
logged_guarded xs true k = refl
logged_guarded xs false k = refl

short_not_full : (b : Book) → Short b → full b ≡ false
unfolding full
short_not_full b s =
    ap₂ (λ (x y : Bool). x || y)
    (ap₂ (λ (x y : Bool). x || y) (le-ltb 16 _ s.submitted) (le-ltb 16 _ s.pending))
    (le-ltb 64 _ s.retired)

-- where rules have grown a list before they go on, they are paced from there too
from_grown : {A : Type 0} (g : Bool) (p : Step) (r : Rule A) → grows p ≡ true → PacedTo Settled (g || grows p) r → PacedTo Settled true r
from_grown true p r e h = h
from_grown false p r e h = rw e at h

pub step_rule : {A : Type 0} (g : Bool) (r : Rule A) (b : Book) → PacedTo Settled g r → Short b → run_book r b ≡ guarded (list_any full (books_after r b)) (run_free r b)
unfolding run run_free books_after
step_rule g (done a) b p s = refl
step_rule g (undo n) b p s = refl
step_rule g (stop n) b p s = rw (short_not_full b s)
step_rule g (look k) b p s = step_rule g (k b) b (p b) s
step_rule {A} g (act q r) b p s = go (grows q) refl (full (on_book q b).after) refl (λ k. step_rule (g || grows q) r (on_book q b).after p.1 k)
  where
    Goal : Bool → Type 0
    Goal t = guarded t (logged (on_book q b).out (run_book r (on_book q b).after)) ≡ guarded (list_any full (books_after r (on_book q b).after)) (logged (on_book q b).out (run_free r (on_book q b).after))

    on : (grows q && full (on_book q b).after) ≡ false → (Short (on_book q b).after → run_book r (on_book q b).after ≡ guarded (list_any full (books_after r (on_book q b).after)) (run_free r (on_book q b).after))
        → logged (on_book q b).out (run_book r (on_book q b).after) ≡ guarded (list_any full (books_after r (on_book q b).after)) (logged (on_book q b).out (run_free r (on_book q b).after))
    on e ih = ap (logged (on_book q b).out) (ih (short_step q b s e)) ∙ logged_guarded (on_book q b).out (list_any full (books_after r (on_book q b).after)) (run_free r (on_book q b).after)

    go : (x : Bool) → grows q ≡ x → (y : Bool) → full (on_book q b).after ≡ y
        → (Short (on_book q b).after → run_book r (on_book q b).after ≡ guarded (list_any full (books_after r (on_book q b).after)) (run_free r (on_book q b).after))
        → Goal (x && y)
    go true e true f ih = rw (over r (on_book q b).after (from_grown g q r e p.1) f)
    go true e false f ih = on (rw (e, f)) ih
    go false e y f ih = on (rw e) ih
step_rule g (turn r) b p s = rw (short_not_full b s) (step_rule false r b p s)
