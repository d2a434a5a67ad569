use Rattle.codec_append.specs.Fits.{each_start, each_more}
use Rattle.tool_book_text.specs.Entries.{id_after_space}
use Rattle.tool_book_text.proofs.entry.append_numbers.Goals as goal

pub loop-n-init : goal.loop-n-init
loop-n-init c = each_start id_after_space c.args.l.now c.args.at c.args.out.now

pub loop-n-preserved : goal.loop-n-preserved
loop-n-preserved c = each_more 0 id_after_space c.args.l.now c.loop-n.n-index c.loop-n-test.true c.loop-n.invariant c.append_spaced-e.ensures
