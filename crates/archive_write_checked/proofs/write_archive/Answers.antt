-- `is_sound` says the mark is the book's soundness: refused, or what is written for a sound book.
use borrow.Author.Tests.{not-true, not-false}
use Rattle.std.proofs.Common.{sym, ◌∙◌}
use Rattle.archive_form.specs.Encode.{encode_book}
use Rattle.archive_write_checked.specs.Answer.{unsound, sound_answer}
use Rattle.archive_write_checked.proofs.write_archive.Goals as goal

pub returns-then-not-sound : goal.returns-then-not-sound
returns-then-not-sound c = unsound c.args.out.now (encode_book c.args.b) (sym c.is_sound-sound.ensures ∙ not-true _ c.if-not-sound.true-raw)

pub invariant_of-write_sound : goal.invariant_of-write_sound
invariant_of-write_sound c = record { sound = sym c.is_sound-sound.ensures ∙ not-false _ c.if-not-sound.false-raw }

pub returns : goal.returns
returns c = sound_answer c.args.out.now (encode_book c.args.b) (sym c.is_sound-sound.ensures ∙ not-false _ c.if-not-sound.false-raw) c.write_sound.ensures
