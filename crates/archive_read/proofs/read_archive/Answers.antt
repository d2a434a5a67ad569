-- What the cursor says at the end is the answer.
use Rattle.archive_read.specs.Archive.{answered, answer_over, answer_got, answer_bad}
use native.Mathlib.Omega.{arith}
use mathlib.Core.Path.{◌∙◌}
use Rattle.archive_read.proofs.read_archive.Goals as goal

pub returns-then-at-s : goal.returns-then-at-s
returns-then-at-s c = answered _ (c.refused.ensures ∙ answer_over c.args.s.now c.read_book-book.ensures c.if-at-s.true (omega arith))

pub returns-then-at-lt-FAR : goal.returns-then-at-lt-FAR
returns-then-at-lt-FAR c = answered _ (answer_got c.args.s.now c.read_book-book.ensures c.if-at-s.false c.if-at-lt-FAR.true)

pub returns : goal.returns
returns c = answered _ (c.refused-2.ensures ∙ answer_bad c.args.s.now c.read_book-book.ensures c.if-at-lt-FAR.false)
