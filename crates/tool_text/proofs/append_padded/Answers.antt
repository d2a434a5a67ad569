use Rattle.tool_text.proofs.Decimal.{padded_end, padded_down}
use Rattle.std.proofs.lemmas.List.{length-replicate}
use Rattle.tool_text.proofs.append_padded.Goals as goal

pub loop-i-init : goal.loop-i-init
loop-i-init g c = padded_end c.args.n g.row.K _ (length-replicate g.row.K 0)

pub loop-i-preserved : goal.loop-i-preserved
loop-i-preserved g c = padded_down c.args.n c.loop-i.i c.loop-i.rest g.row.K c.loop-i.digits c.loop-i-test.true c.loop-i.auto.i c.loop-i.invariant
