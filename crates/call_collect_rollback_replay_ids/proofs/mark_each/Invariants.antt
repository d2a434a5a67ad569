-- The loop keeps: the marks of the ids left come on the book so far to what all marks come to on the first.
use Rattle.std.specs.Prelude.{◌≡◌, drop}
use Rattle.book.specs.Model.{view}
use Rattle.rules.specs.Steps.{run_book}
use Rattle.call_collect_rollback_replay_ids.specs.Collecting.{mark_all}
use Rattle.call_collect_rollback_replay_ids.proofs.mark_each.Given as goal

abbrev pub invariant-loop-id : goal.invariant-loop-id
invariant-loop-id l = run_book (mark_all l.fresh) (view l.initial.out.parts) ≡ run_book (mark_all (drop l.id-index l.fresh)) (view l.out.parts)
