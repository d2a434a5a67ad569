-- The id and the slots are read, intent and state passed.
use Rattle.archive_walk.specs.Sections.{submitted_walks}
use Rattle.archive_walk.proofs.section.walk_submitted.Goals as goal

pub returns : goal.returns
returns c = submitted_walks c.read_new_id-id.ensures c.read_slots-slots.ensures c.skip_facts.ensures
