-- The loop keeps: the state is the hash of the padded message's first blocks, as many as were taken; those are the message's own.
use mathlib.Core.Path.{◌≡◌}
use Rattle.base_sha256.specs.Fips.{hashed, pad}
use Rattle.base_sha256.specs.Code.{words_of}
use Rattle.base_sha256.proofs.hash_full_blocks.Given as goal

abbrev pub invariant-loop-block : goal.invariant-loop-block
invariant-loop-block l = words_of l.st ≡ hashed (pad l.s) l.block-index
