-- All ids are live or made exactly if every input that is not made is live (`outer_is`); the first `n` rows are the inputs' ids.
use borrow.Author.Rules.{rules}
use mathlib.Core.Path.{◌≡◌, ap, ◌∙◌}
use lib.ListN.{length}
use Rattle.std.specs.List.{list_all}
use Rattle.base_coin_string.specs.CoinIds.{ids_in}
use Rattle.book_coins.proofs.Lengths.{spends_long}
use Rattle.part_chain_tests.specs.Laws.{live_or_made, rows_are, outer_is}
use Rattle.part_chain_tests.proofs.outer_inputs_live.Goals as goal

pub returns : goal.returns
returns c =
    let b = c.args.b in let live = ids_in c.args.inputs.now in let l : length b.spends ≡ 4 = search (rules, spends_long) in
    c.all_live_or_made.ensures ∙ ap (list_all (live_or_made live b)) (rows_are b c.at_most_four-n.result l c.at_most_four-n.ensures c.input_coin_ids-ids.ensures) ∙ outer_is live b
