-- The look-up asks for a normal book, and a sound one is.
use Rattle.part_lookup.specs.Normal.{sound_normal}
use Rattle.part_attempt_answers.proofs.attempt_place.Goals as goal

pub find_attempt-requires : goal.find_attempt-requires
find_attempt-requires c = sound_normal c.args.b.parts c.args.b.sound
