-- Paper 01, "Drain and its plan": "tokens running upward by one from the old next token". It holds of whatever any rules hand out.
use Rattle.std.specs.Prelude.{ℕ, suc, Bool, true, false, cond, ◌&&◌, List, [], ◌∷◌, ◌++◌, map, ◌≡◌, refl}
use Rattle.std.proofs.Common.{sym, subst}
use Rattle.book.specs.declared.SubmittedTx.{SubmittedTx}
use Rattle.book.specs.declared.PendingSubmissionIntent.{PendingSubmissionIntent}
use Rattle.book.specs.declared.SubmissionDeliveryGoal.{SubmissionDeliveryGoal}
use Rattle.book.specs.Model.{Book}
use Rattle.book.specs.Sound.{id_of}
use Rattle.rules.specs.Keyed.{pick}
use Rattle.book_answers.specs.declared.DrainedSubmission.{DrainedSubmission}
use Rattle.rules.specs.Rule.{done, Step, note, revise, retain, emit, remove, set_aside, finalise, replay, Rule, undo, stop, look, act, turn, Outcome, ended, undone, stopped, logged, guarded, grows, full, run}
use Rattle.rules.specs.Steps.{note_book, revise_book, retainable, retained, retain_book, issue_book, emit_to, emit_book, remove_book, mark_book, replay_book, on_book, run_book}
use Rattle.rules.specs.Steps.Slots.{handed}

-- the tokens of xs run from n up to below m
abbrev pub Upward : ℕ → List DrainedSubmission → ℕ → Type 0
Upward n [] m = n ≡ m
Upward n (x ∷ xs) m = (x.attempt_token.0 ≡ n) × Upward (suc n) xs m

upward_append : (n k m : ℕ) (xs ys : List DrainedSubmission) → Upward n xs k → Upward k ys m → Upward n (xs ++ ys) m
upward_append n k m [] ys p q = subst (λ (j : ℕ). Upward j ys m) (sym p) q
upward_append n k m (x ∷ xs) ys p q = (p.0, upward_append (suc n) k m xs ys p.1 q)

abbrev next_of : Book → ℕ
next_of b = b.next_token.0

emit_upward : (i : ℕ) (g : SubmissionDeliveryGoal) (b : Book) → Upward (next_of b) (emit_book i g b).out (next_of (emit_book i g b).after)
unfolding emit_book issue_book handed
emit_upward i g b = go (pick id_of i b.submitted)
  where
    go : (ts : List SubmittedTx) → Upward (next_of b) (emit_to i g b ts).out (next_of (emit_to i g b ts).after)
    go [] = refl
    go (t ∷ ts) = (refl, refl)

retain_next : (p : PendingSubmissionIntent) (b : Book) → next_of b ≡ next_of (retain_book p b)
unfolding retain_book retained
retain_next p b = go (retainable p b.next_id.0 (map id_of b.submitted))
  where
    go : (t : Bool) → next_of b ≡ next_of (cond t (retained p b) b)
    go true = refl
    go false = refl

step_upward : (p : Step) (b : Book) → Upward (next_of b) (on_book p b).out (next_of (on_book p b).after)
unfolding on_book note_book revise_book remove_book mark_book replay_book
step_upward (note n) b = refl
step_upward (revise i r) b = refl
step_upward (retain p) b = retain_next p b
step_upward (emit i g) b = emit_upward i g b
step_upward (remove i) b = refl
step_upward (set_aside i) b = refl
step_upward (finalise i v) b = refl
step_upward (replay i) b = refl

-- what an outcome handed out runs from n up to the next token that it left
abbrev pub UpwardTo : {A : Type 0} → ℕ → Outcome Book A → Type 0
UpwardTo n (ended b xs a) = Upward n xs b.next_token.0
UpwardTo n (undone k) = Unit {0}
UpwardTo n (stopped b xs k) = Upward n xs b.next_token.0

upward_logged : {A : Type 0} (n k : ℕ) (t : Bool) (xs : List DrainedSubmission) (o : Outcome Book A) → Upward n xs k → UpwardTo k o → UpwardTo n (guarded t (logged xs o))
upward_logged n k true xs o p q = tt
upward_logged n k false xs (ended b ys a) p q = upward_append n k (next_of b) xs ys p q
upward_logged n k false xs (undone m) p q = tt
upward_logged n k false xs (stopped b ys m) p q = upward_append n k (next_of b) xs ys p q

pub tokens_upward : {A : Type 0} (r : Rule A) (b : Book) → UpwardTo b.next_token.0 (run_book r b)
unfolding run
tokens_upward (done a) b = refl
tokens_upward (undo n) b = tt
tokens_upward (stop n) b = refl
tokens_upward (look k) b = tokens_upward (k b) b
tokens_upward (act p r) b =
    upward_logged (next_of b) (next_of (on_book p b).after) (grows p && full (on_book p b).after) (on_book p b).out (run_book r (on_book p b).after)
    (step_upward p b) (tokens_upward r (on_book p b).after)
tokens_upward (turn r) b = tokens_upward r b
