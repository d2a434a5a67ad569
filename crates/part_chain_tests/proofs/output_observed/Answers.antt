-- The search finds an output exactly if one of the expected outputs is observed.
use mathlib.Core.Path.{◌≡◌, refl, ap, ◌∙◌}
use Rattle.std.specs.Prelude.{Some, None}
use Rattle.std.specs.Option.{is_some}
use Rattle.book_coins.specs.Found.{Place, is_found}
use Rattle.base_coin_string.specs.CoinList.{coins_in}
use Rattle.part_chain_tests.specs.Laws.{found_observed}
use Rattle.part_chain_tests.proofs.output_observed.Goals as goal

some_found : (f : Place) → is_some f ≡ is_found f
some_found None = refl
some_found (Some (i, j)) = refl

pub returns : goal.returns
returns c =
    c.is_some.ensures ∙ some_found c.first_output_among.result ∙ ap is_found c.first_output_among.ensures ∙ found_observed (coins_in c.args.observed.now) c.args.p
