-- By computation: the 64 literals of the code are the definition's table.
use Rattle.base_sha256.specs.Fips.{K}
use Rattle.base_sha256.proofs.round_at.Goals as goal

pub returns : goal.returns
unfolding K
returns c = c.round.ensures
