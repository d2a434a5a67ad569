-- The loop keeps: the cells are the ids of the first `i` spends with zero rows behind.
use Rattle.base_lists.specs.Lists.{cells}
use Rattle.book.specs.Zero.{zeros}
use Rattle.book_coins.specs.Laws.{spent_id}
use mathlib.Core.Path.{◌≡◌}
use mathlib.Core.List.{map}
use lib.ListN.{take}
use Rattle.book_coins.proofs.input_coin_ids.Given as goal

abbrev pub invariant-loop-i : goal.invariant-loop-i
invariant-loop-i l = l.ids ≡ cells 4 (zeros 32) (map spent_id (take l.i l.b.spends))
