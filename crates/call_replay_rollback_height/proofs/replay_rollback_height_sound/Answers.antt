-- The rules hand out the height that stands in the epoch's cells.
use Rattle.call_replay_rollback_height.specs.Answer.{height_is_lem}
use Rattle.call_replay_rollback_height.proofs.replay_rollback_height_sound.Goals as goal

pub returns : goal.returns
returns c = height_is_lem c.args.b.parts c.args.b.sound c.rollback_height-h.ensures
