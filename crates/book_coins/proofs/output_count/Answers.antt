-- The count capped at four takes the same outputs from the four cells as the count itself.
use native.Mathlib.Nat.{min-le_right}
use Rattle.base_lists.specs.Laws.{take_cut}
use Rattle.book_coins.proofs.Lengths.{outputs_long}
use borrow.Author.Rules.{rules}
use mathlib.Core.Path.{◌≡◌}
use lib.ListN.{length}
use Rattle.book_coins.proofs.output_count.Goals as goal

pub returns : goal.returns
returns c =
    let s = c.args.s in let l : length s.outputs ≡ 4 = search (rules, outputs_long) in
    record { most = rw c.at_most_four.ensures (min-le_right s.output_count 4); long = l; used = take_cut 4 s.output_count c.at_most_four.result s.outputs l c.at_most_four.ensures }
