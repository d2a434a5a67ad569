-- The mark decides between an unreadable run and outputs.
use Rattle.archive_bundle_read.specs.Runs.{run_unreadable, run_readable}
use Rattle.archive_walk.specs.Skips.{skips}
use Rattle.archive_walk.proofs.skip.skip_run.Goals as goal

pub returns-then-mark-eq0 : goal.returns-then-mark-eq0
returns-then-mark-eq0 c = rw c.pass.ensures (skips (run_unreadable c.args.base c.read_count-mark.ensures c.if-mark-eq0.true).read)

pub returns : goal.returns
returns c = skips (run_readable c.args.base c.read_count-mark.ensures c.if-mark-eq0.false c.skip_list.ensures.reads).read
