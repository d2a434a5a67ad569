-- The items are passed one behind the other.
use Rattle.archive_walk.specs.Skips.{Passing}
use Rattle.archive_walk.proofs.skip.skip_list.Given as goal

abbrev pub invariant-loop-i : goal.invariant-loop-i
invariant-loop-i g l = Passing l.most g.of.0 (λ before. g.of.1) l.s l.initial.at l.n l.at l._i
