-- A place moves up by FAR; a refusal is there already.
use borrow.Author.Tests.{lt-ltb, le-ltb}
use Rattle.codec_cursor.proofs.refused.Goals as goal

pub returns-then-at-lt-FAR : goal.returns-then-at-lt-FAR
returns-then-at-lt-FAR c = rw (lt-ltb _ _ c.if-at-lt-FAR.true)

pub returns : goal.returns
returns c = rw (le-ltb _ _ c.if-at-lt-FAR.false)
