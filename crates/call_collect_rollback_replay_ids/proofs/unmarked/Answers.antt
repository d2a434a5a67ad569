-- The replayed ids of the view are the list in the epoch's cells, at most 16 in a sound book, so `without` answers as asked.
use Rattle.std.proofs.Common.{rules, arith}
use Rattle.book.specs.Model.{view}
use Rattle.part_lookup.specs.Normal.{sound_normal, sizes}
use Rattle.call_collect_rollback_replay_ids.proofs.unmarked.Goals as goal

pub items-requires : goal.items-requires
items-requires c = (omega arith, (sizes c.args.b.now.parts (sound_normal c.args.b.now.parts c.args.b.now.sound)).replayed)

pub returns : goal.returns
unfolding view
returns c = search rules
