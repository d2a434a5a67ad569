-- The unlimited rules, and the books that they leave after each candidate or id.
use Rattle.std.specs.Prelude.{ℕ, Bool, true, false, not, ◌&&◌, ◌||◌, List, [], ◌∷◌, ◌≡◌, eqb, leb}
use Rattle.book.specs.Model.{Book}
use Rattle.rules.specs.Rule.{done, Note, enqueue, unqueue, retire, unreplay, unqueue_all, unretire_all, begin_epoch, end_epoch, Step, note, revise, retain, emit, remove, set_aside, finalise, replay, Rule, undo, stop, look, act, turn, Outcome, ended, undone, stopped, logged, grows}
use Rattle.rules.specs.Steps.{on_book}
use Rattle.book.specs.Refusals as refusals
use Rattle.book.specs.Refusals.{refusal_number}

unfoldable pub run_free : {A : Type 0} → Rule A → Book → Outcome Book A
unfolding on_book
run_free (done a) b = ended b [] a
run_free (undo n) b = undone n
run_free (stop n) b = stopped b [] n
run_free (look k) b = run_free (k b) b
run_free (act p r) b = logged (on_book p b).out (run_free r (on_book p b).after)
run_free (turn r) b = run_free r b

-- the candidate that ends a drain with 11 is one of them
unfoldable pub books_after : {A : Type 0} → Rule A → Book → List Book
unfolding on_book
books_after (done a) b = []
books_after (undo n) b = []
books_after (stop n) b = b ∷ []
books_after (look k) b = books_after (k b) b
books_after (act p r) b = books_after r (on_book p b).after
books_after (turn r) b = b ∷ books_after r b

-- a list gets shorter
abbrev pub shortens : Note → Bool
shortens (enqueue d) = false
shortens (unqueue i) = true
shortens (retire i) = false
shortens (unreplay i) = false
shortens unqueue_all = true
shortens unretire_all = true
shortens (begin_epoch h) = false
shortens end_epoch = false

abbrev pub shrinks : Step → Bool
shrinks (note n) = shortens n
shrinks (revise i r) = false
shrinks (retain p) = false
shrinks (emit i g) = false
shrinks (remove i) = true
shrinks (set_aside i) = false
shrinks (finalise i v) = false
shrinks (replay i) = false

-- the numbers by which a call may be refused behind the door: 1 is the door's and 13 the reader's
abbrev pub is_refusal : ℕ → Bool
is_refusal n = leb 2 n && leb n 12

-- those that leave no trace: behind an 11 stays what was done before it
abbrev pub undoes : ℕ → Bool
undoes n = is_refusal n && not (eqb n refusals.no_token)

-- those that the rules may say so: 10 comes from the limits alone
abbrev pub turns_away : ℕ → Bool
turns_away n = undoes n && not (eqb n refusals.full)

-- rules in which no list gets shorter between a growth and the end of its candidate or id; P is asked where they end, and the Bool says
-- whether a list has grown since the last such end. They say none but the paper's numbers, and never 10
abbrev pub PacedTo : {A : Type 0} → (Bool → A → Type 0) → Bool → Rule A → Type 0
PacedTo P g (done a) = P g a
PacedTo P g (undo n) = (g ≡ false) × (turns_away (refusal_number n) ≡ true)
PacedTo P g (stop n) = refusal_number n ≡ refusals.no_token
PacedTo P g (look k) = (b : Book) → PacedTo P g (k b)
PacedTo P g (act p r) = ((g && shrinks p) ≡ false) × PacedTo P (g || grows p) r
PacedTo P g (turn r) = PacedTo P false r

abbrev pub Settled : {A : Type 0} → Bool → A → Type 0
Settled g a = g ≡ false
