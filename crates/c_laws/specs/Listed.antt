-- A list of calls of the C library on lent bytes, by the rules: what each returns and leaves, and which calls demand 3's ledger hears of.
use Rattle.std.specs.Prelude.{ℕ, Bool, true, cond, ◌&&◌, List, [], ◌∷◌, ◌++◌, leb, length}
use Rattle.book.specs.Model.{Book}
use Rattle.archive_form.specs.Encode.{encode_model}
use Rattle.rules.specs.Books.{book_after}
use Rattle.rules.specs.Call.{Call, Value}
use Rattle.rules.specs.Calls.{rules}
use Rattle.rules.specs.Rule.{Outcome, ended, undone, stopped}
use Rattle.rules.specs.Steps.{run_book}
use Rattle.c_boundary_laws.specs.Lent.{has_room}
use Rattle.c_api.specs.Functions.{CCall, Returned, Did}
use Rattle.c_laws.specs.Functions.{lent, Asked, asks, bad_list, bad_value, call_of}
use Rattle.c_laws.specs.Told.{told_on}
use Rattle.c_boundary.specs.Forms.{value_form}

-- the book that the rules leave and the answer have room in so many lent bytes; a refusal needs none
abbrev pub room_for : ℕ → ℕ → Outcome Book Value → Bool
room_for book answer (ended m xs v) = has_room m book && leb (length (value_form xs v)) answer
room_for book answer (undone n) = true
room_for book answer (stopped m xs n) = has_room m book

-- what the ledger hears of a call, made on the book m in so many lent bytes: nothing where a list is refused 2 before an argument that stands
-- for no value, where there is such an argument (3), or where room is wanting (12), since such a call changes nothing
abbrev pub heard : ℕ → Book → ℕ → Asked → List Call
heard n m a (asks c) = cond (room_for n a (run_book (rules encode_model c) m)) (c ∷ []) []
heard n m a bad_list = []
heard n m a bad_value = []

abbrev pub heard_of : ℕ → Book → CCall → List Call
heard_of n m c = heard n m (length (lent c).answer) (call_of c)

-- of a list of calls: it is settled from their arguments, the lengths lent, and the rules
unfoldable pub calls : ℕ → Book → List CCall → List Call
unfolding book_after
calls n m [] = []
calls n m (c ∷ cs) = heard_of n m c ++ calls n (book_after encode_model (heard_of n m c) m) cs

-- what the rules' list returns and leaves, one call after the other
unfoldable pub returns : Book → List ℕ → List CCall → List Returned
unfolding book_after
returns m d [] = []
returns m d (c ∷ cs) = told_on m d (lent c) (call_of c) ∷ returns (book_after encode_model (heard_of (length d) m c) m) (told_on m d (lent c) (call_of c)).book cs

-- calls made one after the other on the same lent bytes, from d to e: what they returned and left, by the functions' contracts
pub data Ran : List ℕ → List CCall → List Returned → List ℕ → Type 0 where
  no_call : (d : List ℕ) → Ran d [] [] d
  then_call : {d : List ℕ} {c : CCall} {r : Returned} {cs : List CCall} {rs : List Returned} {e : List ℕ} → Did d c r → Ran r.book cs rs e → Ran d (c ∷ cs) (r ∷ rs) e
