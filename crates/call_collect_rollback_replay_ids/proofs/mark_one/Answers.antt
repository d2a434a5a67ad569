-- Noting the replay and opening are the two steps of `mark_one`.
use Rattle.call_collect_rollback_replay_ids.specs.Marking.{mark_is}
use Rattle.call_collect_rollback_replay_ids.proofs.mark_one.Goals as goal

pub returns : goal.returns
returns c = mark_is c.args.b.parts c.args.b.sound c.args.id.0 c.note_replayed.ensures c.reopen_submitted.ensures
