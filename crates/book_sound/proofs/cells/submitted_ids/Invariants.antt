-- The cells hold the ids of the submissions before `i`.
use Rattle.std.proofs.Common.{◌≡◌, map, take}
use Rattle.base_lists.specs.Lists.{cells}
use Rattle.book.specs.Sound.{id_of}
use Rattle.book_sound.proofs.cells.submitted_ids.Given as goal

abbrev pub invariant-loop-i : goal.invariant-loop-i
invariant-loop-i l = l.items ≡ cells 16 0 (map id_of (take l.i l.a))
