-- Read to the end of the byte, or refused.
use Rattle.c_calls_queue.specs.Kinds.{byte_read}
use Rattle.archive_form.specs.Parse.{parse_trigger}
use Rattle.c_calls_queue.proofs.trigger_in.Goals as goal

pub returns : goal.returns
returns c = byte_read parse_trigger _ c.read_trigger-t.ensures c.then_some.ensures
