-- The two cases of `current_applied_fee`: a variant that bears a fee gives the applied fee, any other 0.
use Rattle.rules.specs.Parts.{current_applied_fee}
use borrow.Author.Rules.{rules}
use Rattle.part_submitted.proofs.entry.current_applied_fee.Goals as goal

pub returns-then-e : goal.returns-then-e
unfolding current_applied_fee
returns-then-e c = search rules

pub returns-else-e : goal.returns-else-e
unfolding current_applied_fee
returns-else-e c = search rules
