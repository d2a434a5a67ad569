use Rattle.codec_append.specs.Fits.{Fits, each_start, each_more}
use Rattle.std.proofs.Common.{arith}
use Rattle.archive_bundle_write.proofs.each.append_each.Goals as goal

pub loop-x-init : goal.loop-x-init
loop-x-init g c = each_start g.form c.args.parts.now c.args.at c.args.out.now

-- `c.requires.1.1.1` is the clause `appends`
pub loop-x-preserved : goal.loop-x-preserved
loop-x-preserved g c =
    let f : Fits (g.form c.x-item.result) c.loop-x.e c.loop-x.out c.append-e.new.arg2 c.append-e.result = c.requires.1.1.1 _ _ _ _ _ c.append-e.ensures in
    each_more c.x-item.result g.form c.args.parts.now c.loop-x.x-index (omega arith) c.loop-x.invariant (rw c.x-item.is at f)
