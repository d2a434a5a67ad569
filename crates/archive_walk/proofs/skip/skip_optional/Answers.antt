-- The mark decides.
use Rattle.archive_walk.specs.Skips.{absent_passed, present_passed}
use Rattle.archive_walk.proofs.skip.skip_optional.Goals as goal

pub returns-then-mark-eq0 : goal.returns-then-mark-eq0
returns-then-mark-eq0 c = absent_passed c.read_count-mark.ensures c.if-mark-eq0.true

pub returns : goal.returns
returns c = present_passed c.read_count-mark.ensures c.if-mark-eq0.false c.skip.ensures
