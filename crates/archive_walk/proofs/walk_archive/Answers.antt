-- What the cursor says at the end is the answer.
use Rattle.archive_walk.specs.Walk.{walk_over, walk_got, walk_bad}
use native.Mathlib.Omega.{arith}
use Rattle.archive_walk.proofs.walk_archive.Goals as goal

pub returns-then-at-s : goal.returns-then-at-s
returns-then-at-s c = walk_over c.args.s.now c.walk_book-walk.ensures c.if-at-s.true (omega arith)

pub returns-then-at-lt-FAR : goal.returns-then-at-lt-FAR
returns-then-at-lt-FAR c = walk_got c.args.s.now c.walk_book-walk.ensures c.if-at-s.false c.if-at-lt-FAR.true

pub returns : goal.returns
returns c = walk_bad c.args.s.now c.walk_book-walk.ensures c.if-at-lt-FAR.false
