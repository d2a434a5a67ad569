-- Straight code: each of the eight sums modulo 2^32 is the word that the definition of the sum names.
use mathlib.Core.Path.{refl}
use Rattle.base_sha256.specs.Fips.{plus}
use Rattle.base_sha256.specs.Code.{words_of}
use Rattle.base_sha256.proofs.add_words.Goals as goal

pub returns : goal.returns
unfolding plus words_of
returns c = refl
