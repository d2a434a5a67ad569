-- The opened book, put back.
use Rattle.c_whole.specs.Whole.{opened_given}
use Rattle.c_whole.proofs.open_into.Goals as goal

pub returns : goal.returns
returns c = opened_given _ _ _ c.open-b.ensures c.put_back.ensures
