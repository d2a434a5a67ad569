-- Demands 1 and 3 on the C library: one theorem over every list of its calls, refused ones too, from `submission_book_open` on memory of any
-- content. Words used, and where they are defined:
--   CCall, Returned, Did, OpenDid   a call with its arguments as C hands them over, what it returns and leaves, the contracts (c_api/Functions)
--   TypedC                          what C's types say of its arguments (Functions)
--   Ran                             calls made one after the other on the same bytes, by the contracts (Listed)
--   calls                           the calls that the ledger hears of (Listed): all but those refused 2 or 3 before a byte argument became a value,
--                                   or 12 for want of room, which change nothing
--   returns                         what the rules' list returns and leaves (Listed)
--   held_in, book_bytes, Holds        the book that lent bytes hold, its bytes, and that they stand at the front (c_boundary/Held, c_boundary_laws/Lent)
--   Demand3, program_book, issued_at, tokens_at    demand 3 on one page (demands/Demand3)
use Rattle.std.specs.Prelude.{ℕ, ◌≡◌, List, ◌∷◌, ◌++◌, length, drop}
use Rattle.std.specs.Prelude.{Some}
use Rattle.codec_forms.specs.Wire.{overlay}
use Rattle.book.specs.Model.{Book, view}
use Rattle.rules.specs.Call.{Call}
use Rattle.rules.specs.Opened.{opened}
use Rattle.rules_ledger.specs.Tidy.{Chained}
use Rattle.submission.specs.Book.{outcome}
use Rattle.demands.specs.Demand3.{Demand3, program_book, tokens_at, issued_at}
use Rattle.c_boundary.specs.Held.{book_bytes, held_in}
use Rattle.c_boundary_laws.specs.Lent.{Holds}
use Rattle.c_api.specs.Functions.{CCall, Returned}
use Rattle.c_laws.specs.Listed.{calls, returns}
use Rattle.c_laws.specs.Drains.{value_by}
use Rattle.c_boundary.specs.Forms.{value_form}

-- opened with next token o and next id i in the memory d
module _ (o i : ℕ) (d : List ℕ) where
  abbrev pub calls_from : List CCall → List Call
  calls_from cs = calls (length d) (opened o i) cs

  -- the program's book behind them
  abbrev pub book_from : List CCall → Book
  book_from cs = view (program_book o i (calls_from cs)).parts

  -- a drain of the list cs, behind the calls `before`, with the lent answer a, which returned 0
  pub record DrainTold (before cs : List CCall) (a : List ℕ) (r : Returned) : Type 0 where
    -- it is a drain of the ledger's list
    pub rest : List Call
    pub heard : calls_from cs ≡ calls_from before ++ Call.Drain ∷ rest
    -- at the front of its answer stand the bytes of what it issued and of its failures
    pub bytes : r.answer ≡ overlay (value_form (issued_at o i (calls_from before) Call.Drain) (value_by (outcome (program_book o i (calls_from before)) Call.Drain))) a
    -- and each submission in them names the last token issued to it before, or none
    pub predecessors : Chained (tokens_at o i (calls_from before)) (issued_at o i (calls_from before) Call.Drain)

  -- what holds behind a list of calls cs: they returned rs and left the memory e
  pub record Library (cs : List CCall) (rs : List Returned) (e : List ℕ) : Type 0 where
    -- each call returned the number, and left in every lent run the bytes, that the rules' list says; the old bytes behind book and answer stay
    pub returned : rs ≡ returns (opened o i) (overlay (book_bytes (opened o i)) d) cs
    -- the memory has its length, holds the program's book, at its front, and its old bytes behind the longest book
    pub long : length e ≡ length d
    pub held : held_in e ≡ Some (book_from cs)
    pub front : Holds (book_from cs) e
    pub beyond : drop 57702 e ≡ drop 57702 d
    -- demand 3, of that book and of these calls
    pub demand3 : Demand3 o i (calls_from cs)
    -- the answer of every drain of the list that is not refused
    pub drained : (before : List CCall) (a : List ℕ) (rest : List CCall) → cs ≡ before ++ CCall.Drain a ∷ rest
        → (qs : List Returned) (r : Returned) (ss : List Returned) → rs ≡ qs ++ r ∷ ss → length qs ≡ length before → r.number ≡ 0 → DrainTold before cs a r
