-- The loop keeps: the ids collected so far, then those of the Active submissions ahead, are the answer, so a push finds room.
use Rattle.book.specs.Sound.{id_of}
use Rattle.call_active_ids.specs.Active.{is_active}
use Rattle.part_ids.specs.Collect.{Collecting}
use Rattle.call_active_ids.proofs.active_in.Given as goal

abbrev pub invariant-loop-t : goal.invariant-loop-t
invariant-loop-t l = Collecting id_of is_active l.retained l.out l.t-index
