-- Theorems on specs/StepRule/Calls.antt.
use Rattle.std.specs.Prelude.{ℕ, Bool, not, ◌&&◌, ◌||◌, ◌≡◌, eqb}
use Rattle.std.proofs.Math.Bool.{true, false}
use Rattle.std.proofs.Common.{true≢false, ap, sym, ◌∙◌, arith, eqb-true}
use mathlib.Core.List.{List}
use Rattle.std.proofs.Math.Path.{refl}
use Rattle.base_lists.specs.Laws.{and_split}
use Rattle.std.specs.List.{list_any}
use Rattle.book.specs.Model.{Book}
use Rattle.rules.specs.Books.{call_book, answer_book}
use Rattle.book_answers.specs.declared.DrainedSubmission.{DrainedSubmission}
use Rattle.rules.specs.Call.{Call, Value}
use Rattle.rules.specs.Calls.{rules}
use Rattle.rules.specs.Rule.{done, Rule, undo, stop, look, act, turn, Outcome, ended, undone, stopped, logged, guarded, grows, full, run, refused, answered, left}
use Rattle.rules.specs.Steps.{on_book, run_book}
use Rattle.rules_laws.specs.Sound.Facts.{short_of}
use Rattle.rules_laws.specs.Sound.Run.{SoundBook}
use Rattle.rules_laws.specs.StepRule.Free.{run_free, books_after, is_refusal, undoes, turns_away, PacedTo, Settled}
use Rattle.rules_laws.proofs.StepRule.Paced.{step_rule}
use Rattle.book.specs.Refusals as refusals
use Rattle.book.specs.Refusals.{refusal_number}
use Rattle.rules_laws.specs.StepRule.Calls.{paced, Numbered, refused_by}

-- "A call is refused as full exactly if, after some step of the unlimited rules, retained, queue or retirements exceed their limit":
-- otherwise it comes to what the unlimited rules come to
pub full_by_steps : (encode : Book → List ℕ) (c : Call) (b : Book) → SoundBook b
    → run_book (rules encode c) b ≡ guarded (list_any full (books_after (rules encode c) b)) (run_free (rules encode c) b)
full_by_steps encode c b s = step_rule false (rules encode c) b (paced encode c) (short_of b s.fits)

numbered_logged : {A : Type 0} (ok : ℕ → Bool) (xs : List DrainedSubmission) (k : Outcome Book A) → Numbered ok k → Numbered ok (logged xs k)
numbered_logged ok xs (ended b ys a) h = h
numbered_logged ok xs (undone n) h = h
numbered_logged ok xs (stopped b ys n) h = h

numbered_guarded : {A : Type 0} (t : Bool) (k : Outcome Book A) → Numbered undoes k → Numbered undoes (guarded t k)
numbered_guarded true k h = refl
numbered_guarded false k h = h

-- 10 is not among what the rules may say
not_ten : turns_away 10 ≡ false
not_ten = refl

never_ten : (n : ℕ) → turns_away n ≡ true → eqb n refusals.full ≡ false
never_ten n h = go (eqb n refusals.full) refl
  where
    go : (t : Bool) → eqb n refusals.full ≡ t → t ≡ false
    go true e = absurd (true≢false (sym h ∙ ap turns_away (eqb-true n 10 e) ∙ not_ten))
    go false e = refl

numbered : {A : Type 0} (P : Bool → A → Type 0) (g : Bool) (r : Rule A) (b : Book) → PacedTo P g r → Numbered undoes (run_book r b)
unfolding run
numbered P g (done a) b p = tt
numbered P g (undo n) b p = (and_split (undoes (refusal_number n)) (not (eqb (refusal_number n) refusals.full)) p.1).0
numbered P g (stop n) b p = p
numbered P g (look k) b p = numbered P g (k b) b (p b)
numbered P g (act q r) b p =
    let c = (on_book q b).after in
    numbered_guarded (grows q && full c) (logged (on_book q b).out (run_book r c))
    (numbered_logged undoes (on_book q b).out (run_book r c) (numbered P (g || grows q) r c p.1))
numbered P g (turn r) b p = numbered P false r b p

pub numbered_call : (encode : Book → List ℕ) (c : Call) (b : Book) → Numbered undoes (run_book (rules encode c) b)
numbered_call encode c b = numbered Settled false (rules encode c) b (paced encode c)

-- the unlimited rules never say 10
numbered_free : {A : Type 0} (P : Bool → A → Type 0) (g : Bool) (r : Rule A) (b : Book) → PacedTo P g r → Numbered turns_away (run_free r b)
unfolding run_free
numbered_free P g (done a) b p = tt
numbered_free P g (undo n) b p = p.1
numbered_free P g (stop n) b p = p
numbered_free P g (look k) b p = numbered_free P g (k b) b (p b)
numbered_free P g (act q r) b p =
    numbered_logged turns_away (on_book q b).out (run_free r (on_book q b).after) (numbered_free P (g || grows q) r (on_book q b).after p.1)
numbered_free P g (turn r) b p = numbered_free P false r b p

-- "A call is refused as full exactly if, after some step of the unlimited rules, retained, queue or retirements exceed their limit": for
-- no other reason, since its rules do not say 10 themselves
pub refused_full : (encode : Book → List ℕ) (c : Call) (b : Book) → SoundBook b
    → refused_by refusals.full (answer_book encode c b) ≡ list_any full (books_after (rules encode c) b)
unfolding answer_book
refused_full encode c b s = ap (λ (k : Outcome Book Value). refused_by refusals.full (answered k)) (full_by_steps encode c b s)
    ∙ go (list_any full (books_after (rules encode c) b)) (run_free (rules encode c) b) (numbered_free Settled false (rules encode c) b (paced encode c))
  where
    go : (t : Bool) (k : Outcome Book Value) → Numbered turns_away k → refused_by refusals.full (answered (guarded t k)) ≡ t
    go true k h = refl
    go false (ended b' xs v) h = refl
    go false (undone n) h = never_ten (refusal_number n) h
    go false (stopped b' xs n) h = ap (λ (m : ℕ). eqb m refusals.full) h

-- behind the door for 1 a call is refused by a number from 2 to 12 or not at all
pub refused_by_lem : (encode : Book → List ℕ) (c : Call) (b : Book) (n : ℕ) → answer_book encode c b ≡ refused n → is_refusal n ≡ true
unfolding answer_book
refused_by_lem encode c b n e = go (run_book (rules encode c) b) (numbered_call encode c b) e
  where
    go : (k : Outcome Book Value) → Numbered undoes k → answered k ≡ refused n → is_refusal n ≡ true
    go (ended b' xs v) h q = absurd (let z : ◌≡◌ {A = ℕ} 0 1 = cc in omega arith)
    go (undone m) h q = let z : refusal_number m ≡ n = cc in (and_split (is_refusal n) (not (eqb n refusals.no_token)) (rw z at h)).0
    go (stopped b' xs m) h q = let z : refusal_number m ≡ n = cc in ap is_refusal (sym z ∙ h)

-- "All leave book and buffers unchanged, but 11"
pub refused_leaves : (encode : Book → List ℕ) (c : Call) (b : Book) (n : ℕ) → answer_book encode c b ≡ refused n → eqb n refusals.no_token ≡ false → call_book encode c b ≡ b
unfolding answer_book call_book
refused_leaves encode c b n e m = go (run_book (rules encode c) b) (numbered_call encode c b) e
  where
    go : (k : Outcome Book Value) → Numbered undoes k → answered k ≡ refused n → left b k ≡ b
    go (ended b' xs v) h q = absurd (let z : ◌≡◌ {A = ℕ} 0 1 = cc in omega arith)
    go (undone l) h q = refl
    go (stopped b' xs l) h q = let z : refusal_number l ≡ n = cc in absurd (true≢false (sym (ap (λ (x : ℕ). eqb x refusals.no_token) (sym z ∙ h)) ∙ m))
