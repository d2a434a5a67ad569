-- The loop keeps: the rules for the ids left come to what the whole list comes to.
use Rattle.std.specs.Prelude.{◌≡◌, drop}
use Rattle.book.specs.Model.{view}
use Rattle.rules.specs.Steps.{run_book}
use Rattle.rules.specs.Calls.QueueRebroadcastEpoch as rules
use Rattle.call_queue_rebroadcast_epoch.proofs.rebroadcast.Given as goal

abbrev pub invariant-loop-id : goal.invariant-loop-id
invariant-loop-id l = run_book (rules.rebroadcast l.trigger l.ids) (view l.initial.out.parts) ≡ run_book (rules.rebroadcast l.trigger (drop l.id-index l.ids)) (view l.out.parts)
