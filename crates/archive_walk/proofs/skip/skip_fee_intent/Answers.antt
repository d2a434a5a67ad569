-- One law for each kind.
use Rattle.archive_bundle_read.specs.Parts.{fee_attach}
use Rattle.archive_walk.specs.Skips.{skips, skips_number, fee_small}
use native.Mathlib.Omega.{arith}
use Rattle.archive_walk.proofs.skip.skip_fee_intent.Goals as goal

pub returns-then-kind-lt2 : goal.returns-then-kind-lt2
returns-then-kind-lt2 c = fee_small c.read_count-kind.ensures.reads c.if-kind-lt2.true

pub returns : goal.returns
returns c = skips (fee_attach c.read_count-kind.ensures.reads (λ q. omega (arith, q, c.if-kind-lt2.false)) (λ q. omega (arith, q, c.if-kind-lt2.false)) c.skip.ensures.reads (skips_number 8 c.skip-2.ensures).reads)
