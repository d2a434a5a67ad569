-- The archive is read where its part stands.
use Rattle.c_read.specs.Part.{every_byte, held_part}
use Rattle.c_read.proofs.held.Goals as goal

pub returns : goal.returns
returns c = held_part _ _ (every_byte _ c.type_inv.d) c.part_of.ensures c.read_archive.ensures.value
