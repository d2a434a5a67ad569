-- With a hash present the callees' promises make up the definition; without one its first condition is false.
use Rattle.rules.specs.Parts.{current_acknowledged}
use Rattle.part_submitted.proofs.fingerprint.current_variant_acknowledged.Goals as goal

pub returns-then-e : goal.returns-then-e
unfolding current_acknowledged
returns-then-e c = rw (c.holds_hash.ensures, c.current_variant_fingerprint.ensures)

pub returns : goal.returns
unfolding current_acknowledged
returns c = rw c.if-e.false
