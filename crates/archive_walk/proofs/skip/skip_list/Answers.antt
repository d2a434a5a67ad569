use Rattle.archive_walk.specs.Skips.{Skips, passing_start, passing_more, passing_list}
use Rattle.archive_walk.proofs.skip.skip_list.Goals as goal

pub loop-i-init : goal.loop-i-init
loop-i-init g c = passing_start _ g.of.0 (λ before. g.of.1) c.args.s.now _ _

-- `c.requires.1.1.1` is the clause `skips`
pub loop-i-preserved : goal.loop-i-preserved
loop-i-preserved g c =
    let x : Skips g.of.1 c.args.s.now c.loop-i.at c.skip_one.new.arg3 = c.requires.1.1.1 _ _ _ c.skip_one.ensures in
    passing_more c.loop-i.invariant c.read_count-n.ensures.few c.loop-i-test.true x

pub returns : goal.returns
returns g c = passing_list c.read_count-n.ensures c.loop-i.invariant c.loop-i-test.false
