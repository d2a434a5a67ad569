-- By computation: the eight literals are the words of the initial hash value.
use mathlib.Core.Path.{refl}
use Rattle.base_sha256.specs.Fips.{H0}
use Rattle.base_sha256.specs.Code.{words_of}
use Rattle.base_sha256.proofs.initial_hash.Goals as goal

pub returns : goal.returns
unfolding words_of H0
returns c = refl
