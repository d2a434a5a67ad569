-- Two cases: `end` is 56 bytes on and the length closes the block; or, by the remainder 56, it lies behind the block, which is zero.
use mathlib.Core.Path.{refl}
use native.Mathlib.Omega.{arith}
use Rattle.base_sha256.proofs.Laws.{length_at_end, all_zero}
use Rattle.base_sha256.proofs.unmarked_block.Goals as goal

pub returns-then-end-at-eq56 : goal.returns-then-end-at-eq56
returns-then-end-at-eq56 c = length_at_end _ _ _ _ 56 refl refl (omega arith) c.length_block.ensures

pub returns-else-end-at-eq56 : goal.returns-else-end-at-eq56
returns-else-end-at-eq56 c = all_zero _ _ _ 64 refl (omega arith)
