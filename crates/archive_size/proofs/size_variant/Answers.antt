-- By whether the variant bears a fee: a flag byte, the bundle and eight bytes of fee, or the flag byte alone.
use Rattle.archive_size.specs.Lengths.{variant_there, variant_none}
use Rattle.archive_size.proofs.size_variant.Goals as goal

pub returns-then-v : goal.returns-then-v
returns-then-v c = variant_there c.args.v.now c.size_bundle.result c.if-v.true c.size_bundle.ensures

pub returns-else-v : goal.returns-else-v
returns-else-v c = variant_none c.args.v.now c.if-v.false
