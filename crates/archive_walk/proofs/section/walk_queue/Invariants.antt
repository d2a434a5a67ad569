-- The entries are passed one behind the other, and where each starts is kept.
use Rattle.archive_walk.specs.Sections.{QueueWalk}
use Rattle.archive_walk.proofs.section.walk_queue.Given as goal

abbrev pub invariant-loop-i : goal.invariant-loop-i
invariant-loop-i l = QueueWalk l.s l.initial.at l.n l.places l.at l.i
