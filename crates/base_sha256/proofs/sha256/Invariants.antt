-- The loop keeps: the state is the hash of the first `i` blocks of the padded message, and `blocks` is the number of all.
use mathlib.Core.Path.{◌≡◌}
use Rattle.base_sha256.specs.Fips.{hashed, pad}
use Rattle.base_sha256.specs.Code.{words_of}
use Rattle.base_sha256.proofs.sha256.Given as goal

abbrev pub invariant-loop-i : goal.invariant-loop-i
invariant-loop-i l = words_of l.st ≡ hashed (pad l.s) l.i
