-- A normal book's count and retired cells are those of its lists, so the callee's plan on cells is the plan on the lists.
use Rattle.book.specs.Model.{view, id_list}
use Rattle.part_ids.specs.IdLaws.{ids_counted}
use Rattle.part_lookup.specs.Normal.{sizes, retired_are}
use Rattle.call_drain.specs.PlannedLaws.{known_on}
use Rattle.call_drain.proofs.plan_known.Goals as goal

pub known-requires : goal.known-requires
unfolding view
known-requires c = (c.requires.1, (sizes c.args.b.now c.requires.0).retired, ids_counted c.args.b.now.retired_submission_ids (id_list c.args.b.now.retired_submission_ids) (retired_are c.args.b.now c.requires.0))

pub returns : goal.returns
returns c = known_on c.args.b.now c.requires.0 (id_list c.args.emitted.now) c.args.n c.args.c.now c.args.f c.args.k c.place_in.ensures c.submitted_at-t.ensures c.known.ensures
