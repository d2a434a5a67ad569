-- Straight code: each callee gives one field of `handed`, the relationship by the current fingerprint, as required.
use Rattle.rules.specs.Steps.Slots.{handed}
use Rattle.part_submitted.proofs.drained.handed.Goals as goal

pub returns : goal.returns
unfolding handed
returns c = rw (c.token_in.ensures, c.relationship.ensures, c.requires, c.current_bundle.ensures, c.open_fee_intent.ensures)
