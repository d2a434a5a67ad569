-- The two cases of `token_in`: a present slot gives its token, an empty one none.
use Rattle.part_submitted.proofs.drained.token_in.Goals as goal

pub returns-then-p : goal.returns-then-p
returns-then-p c = rw c.if-p.true
