-- The kinds are equal where their numbers are, which `same_fee_intent` joins with the equality of amounts and targets.
use Rattle.std.proofs.Common.{eqb, ◌&&◌, ◌∙◌}
use Rattle.rules.specs.Parts.{same_fee_intent}
use Rattle.part_submitted.specs.Laws.{same_kind}
use Rattle.part_submitted.proofs.entry.same_fee_intent.Goals as goal

pub returns : goal.returns
unfolding same_fee_intent
returns c = λ i. (c.eq.ensures ∙ same_kind c.args.a.kind c.args.b.kind) i && eqb c.args.a.amount c.args.b.amount && c.eq-2.ensures i
