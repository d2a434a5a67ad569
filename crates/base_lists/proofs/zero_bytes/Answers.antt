-- What is folded from true is the test of every byte.
use Rattle.std.proofs.Common.{◌∙◌}
use Rattle.std.specs.Prelude.{true}
use Rattle.base_lists.specs.Lists.{is_zero}
use Rattle.base_lists.specs.Laws.{all_folded}
use Rattle.base_lists.proofs.zero_bytes.Goals as goal

pub returns : goal.returns
returns c = c.zero_bytes_folded.ensures ∙ all_folded is_zero true c.args.a.now
