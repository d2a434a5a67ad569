-- A normal epoch's cells hold its ids and nothing else, so storing it changes the epoch of the lists and no other part.
use Rattle.part_ids.specs.IdLaws.{counted_ids}
use Rattle.part_replay.specs.Epoch.{replayed_of}
use Rattle.part_change.specs.Parts.{epoch_back}
use Rattle.part_change.proofs.set_epoch.Goals as goal

pub returns : goal.returns
returns c = epoch_back c.args.b c.requires.0 c.args.e (replayed_of c.args.e) (counted_ids c.args.e.replayed_submission_ids (replayed_of c.args.e) c.requires.1.held)
