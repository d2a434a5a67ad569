-- The items fill their cells one behind the other.
use Rattle.std.proofs.Common.{length}
use Rattle.codec_cursor.specs.Cells.{Filled}
use Rattle.archive_bundle_read.proofs.each.read_list.Given as goal

abbrev pub invariant-loop-i : goal.invariant-loop-i
invariant-loop-i g l = Filled (length l.initial.items) g.of.0 g.of.1 l.s l.initial.at l.count l.items l.at l.i
