-- The first `n` rows are the ids of the bundle's inputs (`rows_are`).
use borrow.Author.Rules.{rules}
use mathlib.Core.Path.{◌≡◌, ap, ◌∙◌}
use lib.ListN.{length}
use Rattle.std.specs.List.{list_any}
use Rattle.base_lists.specs.Bytes.{is_in}
use Rattle.base_coin_string.specs.CoinIds.{ids_in}
use Rattle.book_coins.proofs.Lengths.{spends_long}
use Rattle.part_chain_tests.specs.Laws.{rows_are, spent_is}
use Rattle.part_chain_tests.proofs.input_spent.Goals as goal

pub returns : goal.returns
returns c =
    let b = c.args.p.base_bundle in let seen = ids_in c.args.spent.now in let l : length b.spends ≡ 4 = search (rules, spends_long) in
    c.any_listed.ensures ∙ ap (list_any (is_in seen)) (rows_are b c.at_most_four-n.result l c.at_most_four-n.ensures c.input_coin_ids-ids.ensures) ∙ spent_is seen c.args.p
