use mathlib.Core.Path.{◌≡◌}
use Prim.Native.Nat.{◌+◌, ◌/◌}
use native.Mathlib.Omega.{arith}
use lib.ListN.{length}
use Rattle.base_sha256.specs.Fips.{sha256_of}
use Rattle.base_sha256.proofs.Laws.{hashed_more, pad_is, blocks_are, digest_words}
use Rattle.base_sha256.proofs.sha256.Goals as goal

pub loop-i-preserved : goal.loop-i-preserved
loop-i-preserved c = rw (c.hash_block-st.ensures, c.padded_block-b.ensures, pad_is, hashed_more, c.loop-i.invariant)

pub returns : goal.returns
unfolding sha256_of
returns c = let e : c.loop-i.i ≡ (length c.args.s.now + 8) / 64 + 1 = omega arith in rw (c.digest_of.ensures, digest_words, c.loop-i.invariant, e, blocks_are)
