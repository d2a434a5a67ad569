-- In `c.requires.1.1` stand the clauses from `few` on: `unused` is its `.1.0`, `reads` its `.1.1.1`.
use Rattle.std.proofs.Common.{◌≡◌, sym, subst, List, length, replicate, take}
use Rattle.codec_cursor.specs.Cursor.{Reads}
use Rattle.codec_cursor.specs.Cells.{Filled, filled_start, filled_more, filled_list}
use Rattle.archive_bundle_read.proofs.each.read_list.Goals as goal

pub loop-i-init : goal.loop-i-init
loop-i-init g c =
    let n = length c.args.items.now in
    let e : c.args.items.now ≡ replicate n g.of.0 = c.requires.1.1.1.0 in
    let d = c.read_count-count.new.at in
    subst (λ (l : List g.row.T.Denot). Filled n g.of.0 g.of.1 c.args.s.now d c.read_count-count.result l d 0) (sym e)
    (filled_start n g.of.0 g.of.1 c.args.s.now d c.read_count-count.result)

pub loop-i-preserved : goal.loop-i-preserved
loop-i-preserved g c =
    let r : Reads (g.of.1 (take c.loop-i.i c.loop-i.items)) c.args.s.now c.loop-i.at c.read-x.result c.read-x.new.arg3 = c.requires.1.1.1.1.1 _ _ _ _ _ c.read-x.ensures in
    filled_more c.loop-i.invariant c.read_count-count.ensures.few c.loop-i-test.true r

pub returns : goal.returns
returns g c = filled_list c.read_count-count.ensures.reads c.read_count-count.ensures.few c.loop-i.invariant c.loop-i-test.false
