-- `fee_intent_for_attempt`: the unresolved fee intent, else AlreadyPaid; none for an inactive token.
use Rattle.std.specs.Prelude.{ℕ}
use Rattle.std.specs.Prelude.{Option, None, Some}
use Rattle.book.specs.declared.SubmissionFeeIntent.{SubmissionFeeIntent}
use Rattle.rules.specs.Calls.Common.{with_live}
use Rattle.rules.specs.Parts.{open_fee_intent}
use Rattle.rules.specs.Rule.{done, Rule}

unfoldable pub fee_intent_for_attempt : ℕ → Rule (Option SubmissionFeeIntent)
unfolding with_live open_fee_intent
fee_intent_for_attempt t = with_live t None (λ s. done (Some (open_fee_intent s.entry)))
