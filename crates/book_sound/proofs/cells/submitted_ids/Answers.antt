use Rattle.std.proofs.Common.{rules}
use Rattle.book.specs.Counted.{map_step}
use Rattle.book.specs.Sound.{id_of}
use Rattle.book_sound.proofs.cells.submitted_ids.Goals as goal

pub loop-i-preserved : goal.loop-i-preserved
loop-i-preserved c = map_step 16 0 id_of c.args.a.now c.loop-i.i _ c.loop-i.invariant (search rules) (search rules)
