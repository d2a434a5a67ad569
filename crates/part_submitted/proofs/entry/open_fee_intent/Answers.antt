-- The test is that of `open_fee_intent`: an unresolved fee gives the entry's intent, any other the zero intent.
use Rattle.rules.specs.Parts.{open_fee_intent}
use mathlib.Core.Path.{sym, ◌∙◌}
use Rattle.part_submitted.proofs.entry.open_fee_intent.Goals as goal

pub returns-then-fee_unresolved : goal.returns-then-fee_unresolved
unfolding open_fee_intent
returns-then-fee_unresolved c = rw (sym c.fee_unresolved.ensures ∙ c.if-fee_unresolved.true)

pub returns : goal.returns
unfolding open_fee_intent
returns c = rw (sym c.fee_unresolved.ensures ∙ c.if-fee_unresolved.false, c.zero.ensures)
