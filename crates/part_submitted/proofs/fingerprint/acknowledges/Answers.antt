-- The comparison answers the equality with the hash that `variant_fingerprint` promises of the bundle.
use Rattle.part_submitted.proofs.fingerprint.acknowledges.Goals as goal

pub returns : goal.returns
returns c = rw (c.eq.ensures, c.variant_fingerprint.ensures)
