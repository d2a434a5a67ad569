-- The loop keeps: the coins of the first `j` outputs lie behind those of `o`; at most four join at most 12, so a cell is free.
use Rattle.book_coins.specs.Outputs.{Laid}
use mathlib.Core.Path.{◌≡◌}
use Prim.Native.Nat.{◌+◌}
use lib.ListN.{take}
use Rattle.book_coins.proofs.push_outputs.Given as goal

abbrev pub invariant-loop-j : goal.invariant-loop-j
invariant-loop-j l = (l.o.count ≡ l.initial.o.count + l.j) × Laid l.s l.initial.o l.o (take l.j l.s.outputs)
