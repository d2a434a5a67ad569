-- The count cut at 4 takes the spends of the bundle.
use borrow.Author.Rules.{rules}
use mathlib.Core.Path.{◌≡◌, ap, ◌∙◌}
use lib.ListN.{length}
use Rattle.std.specs.List.{list_any}
use Rattle.base_lists.specs.Laws.{take_cut}
use Rattle.book_coins.proofs.Lengths.{spends_long}
use Rattle.part_chain_tests.specs.Made.{spend_makes}
use Rattle.part_chain_tests.proofs.bundle_makes.Goals as goal

pub returns : goal.returns
returns c =
    let b = c.args.b in let n = c.at_most_four-n in let l : length b.spends ≡ 4 = search (rules, spends_long) in
    c.spends_make.ensures ∙ ap (list_any (spend_makes c.args.id)) (take_cut 4 b.count n.result b.spends l n.ensures)
