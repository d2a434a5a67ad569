-- A list of calls under the rules: what each call answers, and the archive of the book that the last one left.
use Rattle.std.specs.Prelude.{ℕ, List, [], ◌∷◌}
use Rattle.archive_form.specs.Encode.{encode_model}
use Rattle.book.specs.Model.{Book}
use Rattle.rules.specs.Call.{Call, Value}
use Rattle.rules.specs.Calls.{rules}
use Rattle.rules.specs.Rule.{Answer, answered, left, full, run}
use Rattle.rules.specs.Steps.{on_book, run_book}

pub record Played : Type 0 where
  pub answers : List (Answer Value)
  pub archive : List ℕ

abbrev pub saying : Answer Value → Played → Played
saying a p = record { answers = a ∷ p.answers; archive = p.archive }

-- as `answers_book` and `book_after`, each call run once
unfoldable pub play : List Call → Book → Played
unfolding rules run on_book full encode_model
play [] b = record { answers = []; archive = encode_model b }
play (c ∷ cs) b = let k = run_book (rules encode_model c) b in saying (answered k) (play cs (left b k))
