-- Read to the end of the byte, or refused.
use Rattle.c_calls_queue.specs.Kinds.{byte_read}
use Rattle.archive_form.specs.Parse.{parse_goal}
use Rattle.c_calls_queue.proofs.goal_in.Goals as goal

pub returns : goal.returns
returns c = byte_read parse_goal _ c.read_goal-g.ensures c.then_some.ensures
