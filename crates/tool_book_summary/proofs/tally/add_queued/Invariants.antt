-- What is counted and the queue that is left make the whole.
use Rattle.tool_book_summary.specs.Tally.{add_queued}
use Rattle.std.proofs.Common.{◌≡◌, drop}
use Rattle.tool_book_summary.proofs.tally.add_queued.Given as goal

abbrev pub invariant-loop-i : goal.invariant-loop-i
invariant-loop-i l = add_queued l.submitted l.sum (drop l.i l.queue) ≡ add_queued l.submitted l.initial.sum l.queue
