-- By the mark: an unreadable run is one byte, a readable one two bytes before its outputs, whose bound 160 becomes 162.
use Rattle.book.specs.Sound.{outputs_of}
use Rattle.archive_bundle_size.specs.Lengths.{unreadable_size, readable_size}
use Rattle.archive_bundle_size.proofs.size_run.Goals as goal

pub returns-then-s : goal.returns-then-s
returns-then-s c = readable_size c.args.s.now.readable (outputs_of c.args.s.now) _ c.if-s.true c.size_first.ensures

pub returns-else-s : goal.returns-else-s
returns-else-s c = unreadable_size c.args.s.now.readable (outputs_of c.args.s.now) c.if-s.false
