-- No book: 1. No room: 12. Else the archive, and its length.
use borrow.Author.Tests.{not-true, not-false}
use native.Mathlib.Omega.{arith}
use Rattle.c_whole.specs.Whole.{write_absent, write_short, write_whole}
use Rattle.c_whole.proofs.write_from.Goals as goal

pub returns-then-not-ok : goal.returns-then-not-ok
returns-then-not-ok c = write_absent _ _ _ (c.held-h.ensures.absent (not-true _ c.if-not-ok.true-raw))

pub returns-then-archive-n : goal.returns-then-archive-n
returns-then-archive-n c = write_short _ _ _ _ (c.held-h.ensures.present (not-false _ c.if-not-ok.false-raw)) _ c.size_archive-n.ensures c.if-archive-n.true

pub returns : goal.returns
returns c =
    let there = c.held-h.ensures.present (not-false _ c.if-not-ok.false-raw) in
    write_whole _ _ _ _ there _ c.size_archive-n.ensures c.if-archive-n.false (c.write_book.ensures.puts (record { fits = omega (arith, c.size_archive-n.ensures.is, c.if-archive-n.false) }))
