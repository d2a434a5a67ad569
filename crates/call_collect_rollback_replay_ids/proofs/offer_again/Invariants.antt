-- The loop keeps: the offers left come on the book so far to what all offers come to.
use Rattle.std.specs.Prelude.{◌≡◌, drop}
use Rattle.book.specs.Model.{view}
use Rattle.rules.specs.Steps.{run_book}
use Rattle.rules.specs.Calls.CollectRollbackReplayIds.{offer_again}
use Rattle.call_collect_rollback_replay_ids.proofs.offer_again.Given as goal

abbrev pub invariant-loop-id : goal.invariant-loop-id
invariant-loop-id l = run_book (offer_again l.named) (view l.initial.out.parts) ≡ run_book (offer_again (drop l.id-index l.named)) (view l.out.parts)
