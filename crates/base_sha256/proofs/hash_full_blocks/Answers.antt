use Prim.Native.Nat.{◌/◌, ◌<◌}
use native.Mathlib.Omega.{arith}
use lib.ListN.{length}
use Rattle.base_sha256.specs.Fips.{hashed}
use Rattle.base_sha256.proofs.Laws.{hashed_more, front_block}
use Rattle.base_sha256.proofs.hash_full_blocks.Goals as goal

pub loop-block-init : goal.loop-block-init
unfolding hashed
loop-block-init c = c.initial_hash-st.ensures

pub loop-block-preserved : goal.loop-block-preserved
loop-block-preserved c =
    let h : c.loop-block.block-index < length c.args.s.now / 64 = omega (arith, c.as_chunks.ensures.front_len) in
    rw (c.hash_block-st.ensures, c.as_chunks.ensures.front, front_block c.args.s.now _ c.loop-block.block-index h, hashed_more, c.loop-block.invariant)
