-- The coins stay, or the bundle's are inserted, by the test.
use borrow.Author.Tests.{not-true, not-false}
use Rattle.call_reconciliation_input_coins.specs.Inputs.{gathered_none, gathered_some}
use mathlib.Core.Path.{sym, ◌∙◌}
use Rattle.call_reconciliation_input_coins.proofs.gather_inputs.Goals as goal

pub returns-then-not-is_reconciled : goal.returns-then-not-is_reconciled
returns-then-not-is_reconciled c = gathered_none c.args.t c.args.s (sym c.is_reconciled.ensures ∙ not-true c.is_reconciled.result c.if-not-is_reconciled.true-raw)

pub returns : goal.returns
returns c = gathered_some c.args.t (sym c.is_reconciled.ensures ∙ not-false c.is_reconciled.result c.if-not-is_reconciled.false-raw) c.insert_inputs.ensures
