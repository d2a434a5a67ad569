-- What is owed of the rules besides demand 3 (Demand3), with the archive form as archive writing has it. What is owed of the archive alone is
-- archive_laws/Theorems.
use Rattle.std.specs.Prelude.{ℕ, true, List, ◌≡◌}
use Rattle.book.specs.declared.BookData.{BookData}
use Rattle.book.specs.Model.{view, back}
use Rattle.book.specs.Sound.{soundb}
use Rattle.book.specs.SoundLaws.{sound_back}
use Rattle.book.specs.Typed.{Every, U64}
use Rattle.archive_form.specs.Encode.{encode_model}
use Rattle.archive_form.specs.Parse.{read_archive, book}
use Rattle.rules.specs.Books.{call_book, book_after}
use Rattle.rules.specs.Call.{Call}
use Rattle.rules.specs.Opened.{opened}
use Rattle.rules_laws.specs.Sound.Run.{sound_call_data, sound_opened, sound_after}
use Rattle.rules_typed.specs.Theorems.{restored_after}
use Rattle.rules_typed.specs.Typing.{TypedCall}

-- "Every call leaves a sound book."
pub sound : (c : Call) (b : BookData) → soundb b ≡ true → soundb (back (call_book encode_model c (view b))) ≡ true
sound = sound_call_data encode_model

-- no call of a list is refused 1: this rules out the sham book "every book refused 1"
pub never_refused_1 : (token id : ℕ) (calls : List Call) → soundb (back (book_after encode_model calls (opened token id))) ≡ true
never_refused_1 token id calls =
    let k = sound_after encode_model calls (opened token id) (sound_opened token id) in
    sound_back (book_after encode_model calls (opened token id)) k.fits k.lists

-- "Reading back the bytes just written from the book restores it", after every list of calls whose arguments are within their types
pub read_back : (token id : ℕ) → U64 token → U64 id → (calls : List Call) → Every TypedCall calls
    → read_archive (encode_model (book_after encode_model calls (opened token id))) ≡ book (back (book_after encode_model calls (opened token id)))
read_back = restored_after
