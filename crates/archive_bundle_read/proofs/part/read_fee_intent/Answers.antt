-- One law for each kind.
use Rattle.std.proofs.Common.{arith}
use Rattle.archive_bundle_read.specs.Parts.{fee_paid, fee_none, fee_attach}
use Rattle.archive_bundle_read.proofs.part.read_fee_intent.Goals as goal

pub returns-in-0 : goal.returns-in-0
returns-in-0 c = fee_paid c.read_count.ensures.reads c.in-0.is

pub returns-in-1 : goal.returns-in-1
returns-in-1 c = fee_none c.read_count.ensures.reads c.in-1.is

pub returns-in_default : goal.returns-in_default
returns-in_default c = fee_attach c.read_count.ensures.reads (λ e. omega arith) (λ e. omega arith) c.read_hash-target.ensures c.read_number-amount.ensures
