-- The loop keeps: the rules' withdrawal of the ids left comes to what that of all of them comes to.
use Rattle.std.specs.Prelude.{◌≡◌, drop}
use Rattle.book.specs.Model.{view}
use Rattle.rules.specs.Steps.{run_book}
use Rattle.rules.specs.Calls.Common.{withdraw_each}
use Rattle.part_withdraw.proofs.withdraw_each.Given as goal

abbrev pub invariant-loop-id : goal.invariant-loop-id
invariant-loop-id l = run_book (withdraw_each l.ids) (view l.initial.out.parts) ≡ run_book (withdraw_each (drop l.id-index l.ids)) (view l.out.parts)
