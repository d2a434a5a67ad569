-- Straight code: the two temporaries and the two sums are the words that the definition of a round names; six words move on.
use Rattle.base_sha256.specs.Fips.{round}
use Rattle.base_sha256.specs.Code.{words_of}
use Rattle.base_sha256.proofs.round.Goals as goal

pub returns : goal.returns
unfolding round words_of
returns c = cc
