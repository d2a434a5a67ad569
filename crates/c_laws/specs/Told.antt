-- What the rules say that a call of the library returns and leaves, and that every function does just that.
use Rattle.book.specs.declared.refusal.Refusal.{Refusal}
use Rattle.book.specs.declared.refusal.Refusal.TheVariants as turned
use Rattle.book.specs.Refusals.{refusal_number}
use Rattle.std.specs.Prelude.{ℕ, ◌≡◌, Bool, true, false, cond, ◌&&◌, List, [], eqb}
use Rattle.std.proofs.Math.Path.{refl}
use Rattle.std.proofs.Common.{sym}
use Rattle.std.specs.Prelude.{Option, None, Some}
use Rattle.codec_forms.specs.Wire.{overlay}
use Rattle.book.specs.Model.{Book}
use Rattle.archive_form.specs.Encode.{encode_model}
use Rattle.rules.specs.Call.{Value}
use Rattle.rules.specs.Calls.{rules}
use Rattle.rules.specs.Rule.{Rule, Outcome, ended, undone, stopped}
use Rattle.rules.specs.Steps.{run_book}
use Rattle.c_boundary.specs.Held.{held_in}
use Rattle.c_boundary.specs.Settle.{Left, settled, ruled, boundary, Gives, GivesBook}
use Rattle.c_boundary.specs.Forms.{no_form, value_form}
use Rattle.rules_answers.specs.Kind.{Kind, kind_of, asks_room}
use Rattle.c_boundary_laws.specs.Lent.{Holds, Wrote, wrote, short, written_as}
use Rattle.c_calls_chain.specs.Quiet.{length_by}
use Rattle.c_api.specs.Functions.{CCall, Returned}
use Rattle.c_laws.specs.Functions.{Lent, lent, Asked, asks, bad_list, bad_value, call_of}

-- refused: every lent byte stays
abbrev pub turned_away : ℕ → List ℕ → Lent → Returned
turned_away n d l = record { number = n; book = d; answer = l.answer; count = l.count }

-- an outcome of the rules in the lent runs: the book left and the answer, or the refusal's number; 12, and nothing changes, where one has no room
abbrev pub told : Kind → List ℕ → Lent → Outcome Book Value → Returned
told k d l o = record {
  number = (settled value_form d l.answer o).number;
  book = (settled value_form d l.answer o).book;
  answer = (settled value_form d l.answer o).answer;
  count = cond (asks_room k && eqb (settled value_form d l.answer o).number 0) (length_by value_form l.count o) l.count;
}

-- on the book m: as the rules say, but 2 for a list and 3 for an argument that stands for no value
abbrev pub told_on : Book → List ℕ → Lent → Asked → Returned
told_on m d l (asks c) = told (kind_of c) d l (run_book (rules encode_model c) m)
told_on m d l bad_list = turned_away 2 d l
told_on m d l bad_value = turned_away 3 d l

-- on the bytes d: 1 where they hold no book
abbrev pub told_in : Option Book → List ℕ → CCall → Returned
told_in None d c = turned_away 1 d (lent c)
told_in (Some m) d c = told_on m d (lent c) (call_of c)

-- the bytes d, and what they hold
pub data Held (d : List ℕ) : Option Book → Type 0 where
  no_book : held_in d ≡ None → Held d None
  one_book : (m : Book) → held_in d ≡ Some m → Holds m d → Held d (Some m)

-- ---- a call without an answer
no_answer_written : (n : ℕ) (m : Book) (d : List ℕ) (t : Bool) (l : Left) → Wrote n m [] d [] t l → l.answer ≡ []
unfolding overlay
no_answer_written n m d true l (wrote h) = refl
no_answer_written n m d false l short = refl

no_answer : {A : Type 0} (d : List ℕ) (o : Outcome Book A) → (settled no_form d [] o).answer ≡ []
unfolding settled
no_answer d (ended m xs v) = no_answer_written 0 m d _ _ (written_as 0 m [] d [])
no_answer d (undone n) = refl
no_answer d (stopped m xs n) = no_answer_written (refusal_number n) m d _ _ (written_as (refusal_number n) m [] d [])

boundary_no_answer : {A : Type 0} (d : List ℕ) (r : Rule A) → (boundary no_form r d []).answer ≡ []
unfolding boundary
boundary_no_answer d r = go (held_in d)
  where
    go : (x : Option Book) → (ruled no_form r d [] x).answer ≡ []
    go None = refl
    go (Some m) = no_answer d (run_book r m)

pub gives_all : {A : Type 0} (d : List ℕ) (r : Rule A) {n : ℕ} {d' : List ℕ} → GivesBook (boundary no_form r d []) n d' → Gives (boundary no_form r d []) n d' []
gives_all d r g = record { number = g.number; book = g.book; answer = sym (boundary_no_answer d r) }
