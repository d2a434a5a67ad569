-- The two ways: too short, and room for the archive, which is then written.
use native.Mathlib.Omega.{arith}
use Rattle.archive_form.specs.Encode.{encode_book}
use Rattle.archive_write_checked.specs.Answer.{short, whole}
use Rattle.archive_write_checked.proofs.write_sound.Goals as goal

pub returns-then-out-n : goal.returns-then-out-n
returns-then-out-n c = short c.args.out.now (encode_book c.args.b.parts) (omega (arith, c.size_archive-n.ensures.is))

pub returns : goal.returns
returns c =
    whole c.args.out.now _ (encode_book c.args.b.parts) c.write_book-e.result (omega (arith, c.size_archive-n.ensures.is))
    (c.write_book-e.ensures.puts (record { fits = omega (arith, c.size_archive-n.ensures.is) }))
