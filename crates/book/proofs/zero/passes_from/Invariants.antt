-- The loop keeps: the cells before `x` pass.
use Rattle.std.proofs.Common.{◌≡◌, drop}
use Rattle.std.specs.List.{list_all}
use Rattle.book.proofs.zero.passes_from.Given as goal

abbrev pub invariant-loop-x : goal.invariant-loop-x
invariant-loop-x g l = list_all g.form l.rest ≡ list_all g.form (drop l.x-index l.rest)
