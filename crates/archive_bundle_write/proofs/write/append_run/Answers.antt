-- The run by cases; where it can be read, its items follow one another.
use Rattle.book.specs.Sound.{outputs_of}
use Rattle.codec_append.specs.Fits.{fits_as}
use Rattle.archive_bundle_write.specs.Laws.{run_no, run_yes}
use Rattle.archive_bundle_write.proofs.write.append_run.Goals as goal

pub returns-then-s : goal.returns-then-s
returns-then-s c = fits_as (run_yes c.args.s.now.readable (outputs_of c.args.s.now) c.if-s.true) c.append_readable.ensures

pub returns-else-s : goal.returns-else-s
returns-else-s c = fits_as (run_no c.args.s.now.readable (outputs_of c.args.s.now) c.if-s.false) c.append_byte.ensures
