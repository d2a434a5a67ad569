-- The comparison answers whether the hashes are equal, and that and the flag are the two conditions of `holds_hash`.
use Rattle.rules.specs.Parts.{holds_hash}
use Rattle.part_submitted.proofs.entry.holds_hash.Goals as goal

pub returns : goal.returns
unfolding holds_hash
returns c = cc
