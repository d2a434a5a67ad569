-- What the functions on cells make of a book, where the rules have no name for it.
use Rattle.std.specs.Prelude.{cond, List, ℕ, ltb, length, set}
use Rattle.base_lists.specs.Lists.{push_new}
use Rattle.book.specs.Model.{Book, back}
use Rattle.std.specs.Prelude.{Option, Result, Ok, Err}
use Rattle.book.specs.declared.Height.{Height}
use Rattle.book.specs.declared.SubmittedTx.{SubmittedTx}
use Rattle.rules.specs.Rule.{retire}
use Rattle.rules.specs.Steps.{with_submitted, rest_of, with_rest, note_book}
use Rattle.rules.specs.Steps.Notes.{with_epoch}
use Rattle.book.specs.declared.BookData.{BookData}
use Rattle.book.specs.declared.refusal.Refusal.{Refusal}
use Rattle.book.specs.declared.refusal.Refusal.TheVariants as refusals

-- t in place of the submission at k
abbrev pub stored_at : ℕ → SubmittedTx → Book → Book
stored_at k t m = with_submitted (set m.submitted k t) m

abbrev pub with_epoch_of : Option Height → List ℕ → Book → Book
with_epoch_of h is m = with_rest (with_epoch h is (rest_of m)) m

-- `emit_retirement`; a 65th retirement is refused
unfoldable pub retiring : ℕ → Book → Result BookData Refusal
unfolding note_book
retiring i m = cond (ltb 64 (length (push_new m.retired i))) (Err refusals.Full) (Ok (back (note_book (retire i) m)))
