-- The kinds in words, each up to its line's end, and the optional parts.
use Rattle.std.specs.Prelude.{List, ◌++◌, ℕ}
use Rattle.tool_text.specs.Ascii.{ascii}
use Rattle.tool_text.specs.Numbers.{number_line, hex_line}
use Rattle.std.specs.Prelude.{Option}
use Rattle.std.specs.Option.{option_map}
use Rattle.book.specs.declared.Height.{Height}
use Rattle.std.specs.Prelude.{None, Some}
use Rattle.book.specs.declared.SubmissionId.{SubmissionId}
use Rattle.book.specs.declared.FeeIntentKind.{FeeIntentKind}
use Rattle.book.specs.declared.FeeIntentKind.TheVariants.{AlreadyPaid, NoFeeConfigured, Attach}
use Rattle.book.specs.declared.SubmissionFeeIntent.{SubmissionFeeIntent}
use Rattle.book.specs.declared.SubmissionDeliveryGoal.{SubmissionDeliveryGoal}
use Rattle.book.specs.declared.SubmissionDeliveryGoal.TheVariants.{EnsureBroadcast, FeeUpgrade}
use Rattle.book.specs.declared.DeliveryTrigger.{DeliveryTrigger}
use Rattle.book.specs.declared.DeliveryTrigger.TheVariants.{Protocol, FreshChain, Rollback, ProviderReadiness}
use Rattle.book.specs.declared.SubmissionChainTerminality.{SubmissionChainTerminality}
use Rattle.book.specs.declared.SubmissionChainTerminality.TheVariants.{Active, InputSpent, Landed}
use Rattle.book.specs.declared.FeeResolution.{FeeResolution}
use Rattle.book.specs.declared.FeeResolution.TheVariants.{Unresolved, NotRequested, Attached}

unfoldable pub goal_text : SubmissionDeliveryGoal → List ℕ
goal_text EnsureBroadcast = ascii "EnsureBroadcast (to have the bundle broadcast)\n"
goal_text FeeUpgrade = ascii "FeeUpgrade (to have a fee attached)\n"

unfoldable pub trigger_text : DeliveryTrigger → List ℕ
trigger_text Protocol = ascii "  trigger: Protocol (the protocol asked for it)\n"
trigger_text FreshChain = ascii "  trigger: FreshChain (a newer chain was seen)\n"
trigger_text Rollback = ascii "  trigger: Rollback (the chain was rolled back)\n"
trigger_text ProviderReadiness = ascii "  trigger: ProviderReadiness (the fee provider became ready)\n"

unfoldable pub chain_text : SubmissionChainTerminality → List ℕ
chain_text Active = ascii "  chain state: Active (neither landed nor an input spent)\n"
chain_text InputSpent = ascii "  chain state: InputSpent (an input was spent, no output was seen)\n"
chain_text Landed = ascii "  chain state: Landed (an output was seen on the chain)\n"

unfoldable pub resolution_text : FeeResolution → List ℕ
resolution_text Unresolved = ascii "  durable fee state: Unresolved (the wallet is still to be asked for the fee)\n"
resolution_text NotRequested = ascii "  durable fee state: NotRequested (no fee is asked of the wallet)\n"
resolution_text Attached = ascii "  durable fee state: Attached (the wallet has added the fee)\n"

unfoldable pub fee_kind_text : FeeIntentKind → List ℕ → List ℕ
fee_kind_text AlreadyPaid rest = ascii "  fee intent: AlreadyPaid (the bundle pays its fee itself)\n"
fee_kind_text NoFeeConfigured rest = ascii "  fee intent: NoFeeConfigured (no fee is to be paid)\n"
fee_kind_text Attach rest = rest

unfoldable pub fee_intent_text : SubmissionFeeIntent → List ℕ
unfolding fee_kind_text hex_line number_line
fee_intent_text f =
    fee_kind_text f.kind
    (hex_line (ascii "  fee intent: Attach, target ") f.target ++ number_line (ascii "    amount: ") f.amount)

-- a number on its line, or the label and the word `none`
unfoldable pub optional_text : List ℕ → Option ℕ → List ℕ → List ℕ
unfolding number_line
optional_text label None none = label ++ none
optional_text label (Some n) none = number_line label n

unfoldable pub height_text : List ℕ → Option Height → List ℕ
unfolding optional_text
height_text label h = optional_text label (option_map (λ (x : Height). x.0) h) (ascii "none\n")

unfoldable pub id_text : List ℕ → Option SubmissionId → List ℕ
unfolding optional_text
id_text label i = optional_text label (option_map (λ (x : SubmissionId). x.0) i) (ascii "new\n")
