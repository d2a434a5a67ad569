-- What reading an archive answers, by paper 01's number and values: the book; or 13, "not an archive, with place".
use Rattle.std.specs.Prelude.{◌≡◌, ℕ, take}
use Rattle.std.proofs.Common.{ap}
use Rattle.book.specs.declared.BookData.{BookData}
use Rattle.archive_form.specs.Parse.{read_archive, ArchiveRead, book, broken}
use Rattle.archive_form.specs.Specimen.{opened_bytes, opened_cut}
use Rattle.book.specs.Refusals as refusals

-- a refusal has its number and its place
pub data ReadAnswer : Type 0 where
  read : BookData → ReadAnswer
  refused : ℕ → ℕ → ReadAnswer

abbrev pub read_answer : ArchiveRead → ReadAnswer
read_answer (book b) = read b
read_answer (broken e) = refused refusals.no_archive e

-- cut short in the second number
pub cut_refused : read_answer (read_archive (take 16 opened_bytes)) ≡ refused 13 9
cut_refused = ap read_answer opened_cut
