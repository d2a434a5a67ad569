-- A length byte and 32 bytes of digest make 33, the coin is cut at its 73 bytes, and the callee gives the size of the run.
use Rattle.std.proofs.Common.{rules}
use Rattle.archive_bundle_size.specs.Lengths.{spend_size}
use Rattle.archive_bundle_size.proofs.size_spend.Goals as goal

pub returns : goal.returns
returns c = spend_size c.args.s.now c.min-k.result c.size_run.result c.min-k.ensures (search rules) (search rules) c.size_run.ensures
