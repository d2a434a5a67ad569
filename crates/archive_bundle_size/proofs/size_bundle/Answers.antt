-- One count byte and the spends, whose size the callee gives: the bounds 1 and 1072 make 1073.
use Rattle.archive_bundle_size.specs.Lengths.{bundle_size}
use Rattle.archive_bundle_size.proofs.size_bundle.Goals as goal

pub returns : goal.returns
returns c = bundle_size c.args.b _ c.size_first.ensures
