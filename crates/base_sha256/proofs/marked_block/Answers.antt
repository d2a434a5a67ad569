-- Where the message ends in the block, the mark's byte is there and is set; where it ends before or behind, it is in no place of the block.
use native.Mathlib.Omega.{arith}
use Rattle.base_sha256.proofs.Laws.{no_mark, mark_set}
use Rattle.base_sha256.proofs.marked_block.Goals as goal
use Rattle.base_sha256.proofs.marked_block.Goals.{else-at-s-via-then-at-s+else-s-at-lt64, else-at-s-via-else-at-s}

pub returns-then-s-at-lt64 : goal.returns-then-s-at-lt64
returns-then-s-at-lt64 c = mark_set _ _ _ _ _ (omega arith) c.unmarked_block-b.ensures _ (omega arith) (omega arith)

pub returns-else-at-s : goal.returns-else-at-s
returns-else-at-s c =
    no_mark _ _ _ _ _ (omega arith) c.unmarked_block-b.ensures
    (λ k i e. elim c.else-at-s.branch [ else-at-s-via-then-at-s+else-s-at-lt64 w ↦ omega arith | else-at-s-via-else-at-s w ↦ omega arith ])
