-- Straight code: variant, hash and fee resolution are the callees' answers, and the fingerprint is the intent's as required.
use Rattle.rules.specs.Steps.Entry.{new_entry}
use Rattle.part_submitted.proofs.drained.new_entry.Goals as goal

pub returns : goal.returns
unfolding new_entry
returns c = rw (c.requires, c.zero.ensures, c.zero-2.ensures, c.first_resolution.ensures)
