-- Straight code: slots and facts have the callees' sizes, and 8 bytes are the id.
use Rattle.archive_size.specs.Lengths.{submitted_size}
use Rattle.archive_size.proofs.size_submitted.Goals as goal

pub returns : goal.returns
returns c =
    submitted_size c.args.t.now c.size_slot.result c.size_slot-2.result c.size_facts.result
    c.size_slot.ensures c.size_slot-2.ensures c.size_facts.ensures
