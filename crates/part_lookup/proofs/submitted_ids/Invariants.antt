-- The ids of the submissions looked at are pushed.
use Rattle.std.proofs.Common.{◌≡◌, map, take}
use Rattle.book.specs.Model.{id_cells}
use Rattle.book.specs.Sound.{id_of}
use Rattle.part_lookup.proofs.submitted_ids.Given as goal

abbrev pub invariant-loop-t : goal.invariant-loop-t
invariant-loop-t l = l.out ≡ id_cells 16 (map id_of (take l.t-index l.t-items))
