-- In a normal book the count is the list's length and the ids read are the list's, so the callee's plan is that on the lists.
use Rattle.book.specs.Model.{id_list}
use Rattle.part_lookup.specs.Normal.{sizes}
use Rattle.call_drain.specs.PlannedLaws.{unknown_on, ids_short}
use Rattle.call_drain.proofs.plan_unknown.Goals as goal

pub unknown-requires : goal.unknown-requires
unknown-requires c = (c.requires.1, ids_short c.args.b.now c.requires.0 c.submitted_ids-ids.ensures, c.requires.2, rw c.place_in.ensures (sizes c.args.b.now c.requires.0).submitted)

pub returns : goal.returns
returns c = unknown_on c.args.b.now c.requires.0 (id_list c.args.emitted.now) c.args.n c.args.c.now c.args.f c.place_in.ensures c.submitted_ids-ids.ensures c.unknown.ensures
