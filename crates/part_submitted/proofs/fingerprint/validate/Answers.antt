-- Straight code: the three callees answer the three conditions that `validate` joins.
use Rattle.rules.specs.Parts.{validate}
use Rattle.part_submitted.proofs.fingerprint.validate.Goals as goal

pub returns : goal.returns
unfolding validate
returns c = rw (c.is_readable_bundle-readable.ensures, c.consistent_fee-fee.ensures, c.known_acknowledged-known.ensures)
