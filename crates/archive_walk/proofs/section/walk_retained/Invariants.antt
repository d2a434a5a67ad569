-- The submissions are passed with the ids and tokens of those before in hand, and where each starts is kept.
use Rattle.archive_walk.specs.Sections.{RetainedWalk}
use Rattle.archive_walk.proofs.section.walk_retained.Given as goal

abbrev pub invariant-loop-i : goal.invariant-loop-i
invariant-loop-i l = RetainedWalk l.next.0 l.s l.initial.at l.n l.ids l.tokens l.places l.at l.m l.i
