-- A refusal stays as it is; else the test decides.
use borrow.Author.Tests.{lt-ltb, le-ltb}
use Rattle.codec_cursor.proofs.pass.Goals as goal

pub returns-then-at-lt-FAR : goal.returns-then-at-lt-FAR
returns-then-at-lt-FAR c = rw (c.if-ok.false, lt-ltb _ _ c.if-at-lt-FAR.true) c.refused.ensures

pub returns : goal.returns
returns c = rw (c.if-ok.false, le-ltb _ _ c.if-at-lt-FAR.false)
