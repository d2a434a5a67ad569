-- The kind alone, or with the target and the amount of `Attach`.
use Rattle.std.proofs.Common.{rules}
use Rattle.archive_bundle_size.specs.Lengths.{attach_size, plain_size}
use Rattle.archive_bundle_size.proofs.size_fee_intent.Goals as goal

pub returns-then-eq : goal.returns-then-eq
returns-then-eq c = attach_size c.args.f (search rules) (search rules)

pub returns-else-eq : goal.returns-else-eq
returns-else-eq c = plain_size c.args.f (search rules)
