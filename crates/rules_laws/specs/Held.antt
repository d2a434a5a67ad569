-- Rules whose steps are held to a demand: one predicate for every demand, with laws for rules one after the other, for a test and for a run.
use Rattle.std.specs.Prelude.{ℕ, Bool, true, false, cond, ◌&&◌, List, ◌≡◌, refl}
use Rattle.book.specs.Model.{Book}
use Rattle.book.specs.declared.refusal.Refusal.{Refusal}
use Rattle.book_answers.specs.declared.DrainedSubmission.{DrainedSubmission}
use Rattle.rules.specs.Rule.{done, Step, Rule, undo, stop, look, act, turn, ◌>>=◌, ◌<$>◌, Outcome, ended, undone, stopped, logged, guarded, grows, full, run}
use Rattle.rules.specs.Steps.{on_book, run_book}

-- S is asked of each step in the book that it finds, T of a stop, P where the rules end. Behind a step the book is any that has Q: rules
-- that need to know more of it look again
module _ (Q : Book → Type 0) (S : Step → Book → Type 0) (T : Refusal → Book → Type 0) where
  abbrev pub HeldTo : {A : Type 0} → (A → Type 0) → Book → Rule A → Type 0
  HeldTo P b (done a) = P a
  HeldTo P b (undo n) = Unit {0}
  HeldTo P b (stop n) = T n b
  HeldTo P b (look k) = HeldTo P b (k b)
  HeldTo P b (act p r) = S p b × ((c : Book) → Q c → HeldTo P c r)
  HeldTo P b (turn r) = HeldTo P b r

  -- what is asked where rules end that f follows
  abbrev pub Then : {A B : Type 0} → (B → Type 0) → (A → Rule B) → A → Type 0
  Then P f a = (c : Book) → Q c → HeldTo P c (f a)

  pub held_bind : {A B : Type 0} (P : B → Type 0) (m : Rule A) (f : A → Rule B) (b : Book) → Q b → HeldTo (Then P f) b m → HeldTo P b (m >>= f)
  held_bind P (done a) f b q h = h b q
  held_bind P (undo n) f b q h = tt
  held_bind P (stop n) f b q h = h
  held_bind P (look k) f b q h = held_bind P (k b) f b q h
  held_bind P (act p r) f b q h = (h.0, λ c x. held_bind P r f c x (h.1 c x))
  held_bind P (turn r) f b q h = held_bind P r f b q h

  -- the same rules with their answer made into another
  pub held_map : {A B : Type 0} (P : B → Type 0) (f : A → B) (r : Rule A) (b : Book) → HeldTo (λ a. P (f a)) b r → HeldTo P b (f <$> r)
  held_map P f (done a) b h = h
  held_map P f (undo n) b h = tt
  held_map P f (stop n) b h = h
  held_map P f (look k) b h = held_map P f (k b) b h
  held_map P f (act p r) b h = (h.0, λ c x. held_map P f r c (h.1 c x))
  held_map P f (turn r) b h = held_map P f r b h

  pub held_cond : {A : Type 0} (P : A → Type 0) (b : Book) (t : Bool) (x y : Rule A) → (t ≡ true → HeldTo P b x) → (t ≡ false → HeldTo P b y) → HeldTo P b (cond t x y)
  held_cond P b true x y h k = h refl
  held_cond P b false x y h k = k refl

  -- what a run leaves
  abbrev pub Leaves : {A : Type 0} → Outcome Book A → Type 0
  Leaves (ended b xs a) = Q b
  Leaves (undone n) = Unit {0}
  Leaves (stopped b xs n) = Q b × T n b

  leaves_logged : {A : Type 0} (t : Bool) (xs : List DrainedSubmission) (k : Outcome Book A) → Leaves k → Leaves (guarded t (logged xs k))
  leaves_logged true xs k h = tt
  leaves_logged false xs (ended b ys a) h = h
  leaves_logged false xs (undone n) h = h
  leaves_logged false xs (stopped b ys n) h = h

  pub held_run : ((p : Step) (b : Book) → Q b → S p b → Q (on_book p b).after)
      → {A : Type 0} (P : A → Type 0) (r : Rule A) (b : Book) → Q b → HeldTo P b r → Leaves (run_book r b)
  unfolding run
  held_run keeps P (done a) b q h = q
  held_run keeps P (undo n) b q h = tt
  held_run keeps P (stop n) b q h = (q, h)
  held_run keeps P (look k) b q h = held_run keeps P (k b) b q h
  held_run keeps P (act p r) b q h =
      let c = (on_book p b).after in
      let x = keeps p b q h.0 in
      leaves_logged (grows p && full c) (on_book p b).out (run_book r c) (held_run keeps P r c x (h.1 c x))
  held_run keeps P (turn r) b q h = held_run keeps P r b q h
