-- The two cases of `current_bundle`: a variant that bears a fee gives its bundle, any other the base.
use Rattle.rules.specs.Parts.{current_bundle}
use borrow.Author.Rules.{rules}
use Rattle.part_submitted.proofs.entry.current_bundle.Goals as goal

pub returns-then-e : goal.returns-then-e
unfolding current_bundle
returns-then-e c = search rules

pub returns-else-e : goal.returns-else-e
unfolding current_bundle
returns-else-e c = search rules
