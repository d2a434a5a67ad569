-- The drains of a list of calls of the library: each that is not refused answers the bytes of what it issued, and is a drain of the ledger's list.
use Rattle.std.specs.Prelude.{ℕ, ◌≡◌, length}
use mathlib.Core.List.{List, [], ◌∷◌, ◌++◌}
use Rattle.codec_forms.specs.Wire.{overlay}
use Rattle.book.specs.Model.{Book}
use Rattle.archive_form.specs.Encode.{encode_model}
use Rattle.rules.specs.Books.{book_after}
use Rattle.rules.specs.Call.{Call, Value, no_value}
use Rattle.rules.specs.Calls.{rules}
use Rattle.rules.specs.Rule.{Outcome, ended, undone, stopped, issued_by}
use Rattle.rules.specs.Steps.{run_book}
use Rattle.c_api.specs.Functions.{CCall, Returned}
use Rattle.c_laws.specs.Listed.{heard_of, calls}
use Rattle.c_boundary.specs.Forms.{value_form}

-- what an outcome says
abbrev pub value_by : Outcome Book Value → Value
value_by (ended m xs v) = v
value_by (undone n) = no_value
value_by (stopped m xs n) = no_value

-- the drain that is made on d, which holds m
pub record DrainDone (m : Book) (d a : List ℕ) (r : Returned) : Type 0 where
  pub heard : heard_of (length d) m (CCall.Drain a) ≡ Call.Drain ∷ []
  pub bytes : r.answer ≡ overlay (value_form (issued_by (run_book (rules encode_model Call.Drain) m)) (value_by (run_book (rules encode_model Call.Drain) m))) a

-- a drain in the middle of a list: the ledger hears of it, and the answer has the bytes of its outcome on the rules' book
pub record DrainedIn (m : Book) (n : ℕ) (before : List CCall) (cs : List CCall) (a : List ℕ) (r : Returned) : Type 0 where
  pub rest : List Call
  pub heard : calls n m cs ≡ calls n m before ++ Call.Drain ∷ rest
  pub bytes :
      let o = run_book (rules encode_model Call.Drain) (book_after encode_model (calls n m before) m) in
      r.answer ≡ overlay (value_form (issued_by o) (value_by o)) a
