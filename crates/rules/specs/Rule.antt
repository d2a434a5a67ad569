-- The rules of a call as a tree of looks and steps, and its reading over any state that shows a book and on which the steps have an
-- effect: `run`. DESIGN: "The rules of a call are a tree of looks and steps".
use Rattle.std.specs.Prelude.{ℕ, Bool, true, false, ◌||◌, ◌&&◌, ◌≡◌, ltb, length}
use mathlib.Core.List.{List, [], ◌++◌, append_assoc, append-nil}
use Rattle.std.proofs.Math.Path.{refl}
use Rattle.std.proofs.Common.{◌∙◌}
use Rattle.book.specs.Model.{Book}
use Rattle.book.specs.declared.Height.{Height}
use Rattle.std.specs.Prelude.{Option}
use Rattle.book.specs.declared.SpendBundle.{SpendBundle}
use Rattle.book.specs.declared.SubmissionDeliveryGoal.{SubmissionDeliveryGoal}
use Rattle.book.specs.declared.SubmissionChainTerminality.{SubmissionChainTerminality}
use Rattle.book.specs.declared.PendingSubmissionIntent.{PendingSubmissionIntent}
use Rattle.book.specs.declared.PendingDelivery.{PendingDelivery}
use Rattle.book_answers.specs.declared.DrainedSubmission.{DrainedSubmission}
use Rattle.book.specs.declared.refusal.Refusal.{Refusal}
use Rattle.book.specs.declared.refusal.Refusal.TheVariants as refusals
use Rattle.book.specs.Refusals.{refusal_number}

-- a change of the other facts of one submission
pub data Revision : Type 0 where
  -- the expiry becomes the smaller one present
  tighten : Option Height → Revision
  -- the variant with this fingerprint is acknowledged
  acknowledge : List ℕ → Revision
  -- the joined bundle is the variant from here on, and the fee is resolved
  attach : SpendBundle → Revision
  terminality : SubmissionChainTerminality → Revision
  -- Active, and nothing acknowledged
  reopen : Revision

-- what changes no submission: queue, retirements and replay epoch; a number is a submission's id
pub data Note : Type 0 where
  enqueue : PendingDelivery → Note
  unqueue retire unreplay : ℕ → Note
  unqueue_all unretire_all : Note
  begin_epoch : Height → Note
  end_epoch : Note

-- what may change a state; the first number is a submission's id
pub data Step : Type 0 where
  note : Note → Step
  revise : ℕ → Revision → Step
  -- a new submission under the next id
  retain : PendingSubmissionIntent → Step
  emit : ℕ → SubmissionDeliveryGoal → Step
  -- the submission goes, with its queue entries and its replay mark
  remove : ℕ → Step
  set_aside : ℕ → Step
  finalise : ℕ → List ℕ → Step
  -- the submission is marked as replayed
  replay : ℕ → Step

-- rules that end with an A; that turn a call away without a trace, or with the trace left so far; that look at the book; that take a
-- step; or that come to the end of one candidate or one id
pub data Rule (A : Type 0) : Type 0 where
  done : A → Rule A
  undo stop : Refusal → Rule A
  look : (Book → Rule A) → Rule A
  act : Step → Rule A → Rule A
  turn : Rule A → Rule A

-- rules are written as `do` blocks
infixl 20 ◌>>=◌ ◌>>◌
abbrev pub ◌>>=◌ : {A B : Type 0} → Rule A → (A → Rule B) → Rule B
◌>>=◌ (done a) f = f a
◌>>=◌ (undo n) f = undo n
◌>>=◌ (stop n) f = stop n
◌>>=◌ (look k) f = look (λ b. ◌>>=◌ (k b) f)
◌>>=◌ (act p r) f = act p (◌>>=◌ r f)
◌>>=◌ (turn r) f = turn (◌>>=◌ r f)

abbrev pub ◌>>◌ : {A B : Type 0} → Rule A → Rule B → Rule B
◌>>◌ m r = ◌>>=◌ m (λ _. r)

-- the same rules, the answer made into another
infixl 25 ◌<$>◌
abbrev pub ◌<$>◌ : {A B : Type 0} → (A → B) → Rule A → Rule B
◌<$>◌ f r = r >>= (λ a. done (f a))

abbrev pub book : Rule Book
book = look done

abbrev pub step : Step → Rule (Unit {0})
step p = act p (done tt)

abbrev pub end_turn : Rule (Unit {0})
end_turn = turn (done tt)

-- what a run comes to: the state left, what was handed out, and the answer or the refusal
pub data Outcome (S A : Type 0) : Type 0 where
  ended : S → List DrainedSubmission → A → Outcome S A
  undone : Refusal → Outcome S A
  stopped : S → List DrainedSubmission → Refusal → Outcome S A

abbrev pub logged : {S A : Type 0} → List DrainedSubmission → Outcome S A → Outcome S A
logged xs (ended s ys a) = ended s (xs ++ ys) a
logged xs (undone n) = undone n
logged xs (stopped s ys n) = stopped s (xs ++ ys) n

-- refused as full
abbrev pub guarded : {S A : Type 0} → Bool → Outcome S A → Outcome S A
guarded true k = undone refusals.Full
guarded false k = k

-- only these steps make a list longer
abbrev pub lengthens : Note → Bool
lengthens (enqueue c) = true
lengthens (unqueue i) = false
lengthens (retire i) = true
lengthens (unreplay i) = false
lengthens unqueue_all = false
lengthens unretire_all = false
lengthens (begin_epoch h) = false
lengthens end_epoch = false

abbrev pub grows : Step → Bool
grows (note n) = lengthens n
grows (revise i r) = false
grows (retain p) = true
grows (emit i g) = false
grows (remove i) = false
grows (set_aside i) = false
grows (finalise i v) = false
grows (replay i) = false

-- the limits of paper 01: retained 16, queue 16, retirements 64
unfoldable pub full : Book → Bool
full b = ltb 16 (length b.submitted) || ltb 16 (length b.pending) || ltb 64 (length b.retired)

-- what a step leaves, and what it hands out
pub record Effect (S : Type 0) : Type 0 where
  pub after : S
  pub out : List DrainedSubmission

pub logged_logged : {S A : Type 0} (xs ys : List DrainedSubmission) (k : Outcome S A) → logged xs (logged ys k) ≡ logged (xs ++ ys) k
logged_logged xs ys (ended s zs a) = rw append_assoc
logged_logged xs ys (undone n) = refl
logged_logged xs ys (stopped s zs n) = rw append_assoc

-- the answer under an outcome
abbrev pub mapped : {S A B : Type 0} → (A → B) → Outcome S A → Outcome S B
mapped f (ended s xs a) = ended s xs (f a)
mapped f (undone n) = undone n
mapped f (stopped s xs n) = stopped s xs n

module _ {S : Type 0} (view : S → Book) (effect : Step → S → Effect S) where
  unfoldable pub run : {A : Type 0} → Rule A → S → Outcome S A
  run (done a) s = ended s [] a
  run (undo n) s = undone n
  run (stop n) s = stopped s [] n
  run (look k) s = run (k (view s)) s
  run (act p r) s = let k = logged (effect p s).out (run r (effect p s).after) in guarded (grows p && full (view (effect p s).after)) k
  run (turn r) s = run r s

  -- rules run one after the other
  abbrev pub followed : {A B : Type 0} → (A → Rule B) → Outcome S A → Outcome S B
  followed f (ended s xs a) = logged xs (run (f a) s)
  followed f (undone n) = undone n
  followed f (stopped s xs n) = stopped s xs n

  logged_nil : {A : Type 0} (k : Outcome S A) → k ≡ logged [] k
  logged_nil (ended s xs a) = refl
  logged_nil (undone n) = refl
  logged_nil (stopped s xs n) = refl

  followed_act : {A B : Type 0} (f : A → Rule B) (t : Bool) (xs : List DrainedSubmission) (k : Outcome S A)
      → guarded t (logged xs (followed f k)) ≡ followed f (guarded t (logged xs k))
  followed_act f true xs k = refl
  followed_act f false xs (ended s ys a) = logged_logged xs ys (run (f a) s)
  followed_act f false xs (undone n) = refl
  followed_act f false xs (stopped s ys n) = refl

  pub run_bind : {A B : Type 0} (m : Rule A) (f : A → Rule B) (s : S) → run (m >>= f) s ≡ followed f (run m s)
  unfolding run
  run_bind (done a) f s = logged_nil (run (f a) s)
  run_bind (undo n) f s = refl
  run_bind (stop n) f s = refl
  run_bind (look k) f s = run_bind (k (view s)) f s
  run_bind (act p r) f s =
      rw (run_bind r f (effect p s).after) (followed_act f (grows p && full (view (effect p s).after)) (effect p s).out (run r (effect p s).after))
  run_bind (turn r) f s = run_bind r f s

  followed_done : {A B : Type 0} (f : A → B) (k : Outcome S A) → followed (λ a. done (f a)) k ≡ mapped f k
  unfolding run
  followed_done f (ended s xs a) = rw append-nil
  followed_done f (undone n) = refl
  followed_done f (stopped s xs n) = refl

  -- rules with their answer made into another come to the same, but for the answer
  pub run_map : {A B : Type 0} (f : A → B) (r : Rule A) (s : S) → run (f <$> r) s ≡ mapped f (run r s)
  run_map f r s = run_bind r (λ a. done (f a)) s ∙ followed_done f (run r s)

-- the state under an outcome
abbrev pub carry : {S T A : Type 0} → (S → T) → Outcome S A → Outcome T A
carry f (ended s ys a) = ended (f s) ys a
carry f (undone n) = undone n
carry f (stopped s ys n) = stopped (f s) ys n

-- what a call answers: what it handed out and its value, or the refusal's number alone
pub data Answer (A : Type 0) : Type 0 where
  answer : List DrainedSubmission → A → Answer A
  refused : ℕ → Answer A

abbrev pub answered : {S A : Type 0} → Outcome S A → Answer A
answered (ended s xs a) = answer xs a
answered (undone n) = refused (refusal_number n)
answered (stopped s xs n) = refused (refusal_number n)

-- the state that a call leaves
abbrev pub left : {S A : Type 0} → S → Outcome S A → S
left s (ended t xs a) = t
left s (undone n) = s
left s (stopped t xs n) = t

-- what a call issued, also where it was stopped
abbrev pub issued_by : {S A : Type 0} → Outcome S A → List DrainedSubmission
issued_by (ended s xs a) = xs
issued_by (undone n) = []
issued_by (stopped s xs n) = xs

pub issued_mapped : {S A B : Type 0} (f : A → B) (k : Outcome S A) → issued_by (mapped f k) ≡ issued_by k
issued_mapped f (ended s xs a) = refl
issued_mapped f (undone n) = refl
issued_mapped f (stopped s xs n) = refl
