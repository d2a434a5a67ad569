-- The loop keeps: the rules for the submissions ahead, run on `out`, come to what the whole call comes to.
use Rattle.std.specs.Prelude.{◌≡◌, drop}
use Rattle.book.specs.Model.{view}
use Rattle.rules.specs.Steps.{run_book}
use Rattle.rules.specs.Calls.QueueFeeReadiness.{queue_fee_readiness}
use Rattle.call_queue_fee_readiness.specs.Readiness.{ready_all}
use Rattle.call_queue_fee_readiness.proofs.queue_fee_readiness_sound.Given as goal

abbrev pub invariant-loop-t : goal.invariant-loop-t
invariant-loop-t l = run_book queue_fee_readiness (view l.initial.out.parts) ≡ run_book (ready_all (drop l.t-index l.retained)) (view l.out.parts)
