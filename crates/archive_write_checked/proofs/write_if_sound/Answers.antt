-- The three ways: not sound, too short, and room for the archive, which is then written.
use native.Mathlib.Omega.{arith}
use Rattle.archive_form.specs.Encode.{encode_book}
use Rattle.archive_write_checked.specs.Answer.{unsound, short, whole, sound_answer}
use Rattle.archive_write_checked.proofs.write_if_sound.Goals as goal

pub returns-then-n-out : goal.returns-then-n-out
returns-then-n-out c =
    sound_answer c.args.out.now (encode_book c.args.b) c.if-sound.true
    (whole c.args.out.now _ (encode_book c.args.b) c.write_book.result (omega (arith, c.size_archive-n.ensures.is))
    (c.write_book.ensures.puts (record { fits = omega (arith, c.size_archive-n.ensures.is) })))

pub returns-then-sound : goal.returns-then-sound
returns-then-sound c =
    sound_answer c.args.out.now (encode_book c.args.b) c.if-sound.true
    (short c.args.out.now (encode_book c.args.b) (omega (arith, c.size_archive-n.ensures.is)))

pub returns : goal.returns
returns c = unsound c.args.out.now (encode_book c.args.b) c.if-sound.false
