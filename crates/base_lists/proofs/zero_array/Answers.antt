-- The test passes over every byte, and the type gives the length that the definition also asks.
use Rattle.std.proofs.Common.{rules}
use Rattle.base_lists.specs.Lists.{is_zero}
use Rattle.base_lists.specs.Laws.{full_of_lem}
use Rattle.base_lists.proofs.zero_array.Goals as goal

pub returns : goal.returns
returns g c = full_of_lem is_zero c.args.a.now g.row.N (search rules) c.zero_bytes.ensures
