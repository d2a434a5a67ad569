use mathlib.Core.Path.{refl}
use native.Mathlib.Omega.{arith}
use lib.ListN.{length-set}
use Rattle.base_sha256.specs.Fips.{schedule}
use Rattle.base_sha256.proofs.Laws.{word_more}
use Rattle.base_sha256.proofs.first_words.Goals as goal

pub loop-t-init : goal.loop-t-init
unfolding schedule
loop-t-init c = (refl, refl)

pub loop-t-preserved : goal.loop-t-preserved
loop-t-preserved c = (simp length-set (omega arith), word_more _ _ _ _ (omega arith) c.loop-t.invariant.1 (omega arith) c.word_at.ensures)
