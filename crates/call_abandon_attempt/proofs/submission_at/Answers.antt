-- The cell asks for a normal book, and a sound one is.
use Rattle.part_lookup.specs.Normal.{sound_normal}
use Rattle.call_abandon_attempt.proofs.submission_at.Goals as goal

pub submitted_at-requires : goal.submitted_at-requires
submitted_at-requires c = (sound_normal c.args.b.parts c.args.b.sound, c.requires)
