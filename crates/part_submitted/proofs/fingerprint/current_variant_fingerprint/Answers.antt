-- The promise of `variant_fingerprint` at the bundle that `current_bundle` promises is the definition.
use Rattle.rules.specs.Parts.{current_fingerprint}
use Rattle.part_submitted.proofs.fingerprint.current_variant_fingerprint.Goals as goal

pub returns : goal.returns
unfolding current_fingerprint
returns c = rw (c.variant_fingerprint.ensures, c.current_bundle.ensures)
