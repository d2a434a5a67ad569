-- Nothing is put, or the bundle's outputs that are listed, by whether the submission is listed.
use borrow.Author.Tests.{not-true, not-false}
use Rattle.base_coin_string.specs.CoinList.{coins_in}
use Rattle.call_absent_outputs_for_ids.specs.Outputs.{put_none_of, put_those_of}
use mathlib.Core.Path.{sym, ◌∙◌}
use Rattle.call_absent_outputs_for_ids.proofs.put_absent.Goals as goal

pub returns-then-not-contains : goal.returns-then-not-contains
returns-then-not-contains c = put_none_of c.args.ids.now (coins_in c.args.absent.now) c.args.t (sym c.contains.ensures.value ∙ not-true c.contains.result c.if-not-contains.true-raw) c.args.at c.args.out.now

pub put_listed-requires : goal.put_listed-requires
put_listed-requires c = (c.expected_output_coins-outputs.ensures.1, c.requires)

pub returns : goal.returns
returns c =
    put_those_of c.args.ids.now (coins_in c.args.absent.now) c.args.t (sym c.contains.ensures.value ∙ not-false c.contains.result c.if-not-contains.false-raw) c.expected_output_coins-outputs.ensures.0 c.expected_output_coins-outputs.ensures.1
    c.put_listed.ensures
