-- What the rules ask of a submission: the methods of the Rust's `SubmittedTx`, and `min_expiry`.
use Rattle.std.specs.Prelude.{ℕ, Bool, true, false, cond, not, ◌&&◌, ◌||◌, List, eqb, ltb}
use Rattle.base_lists.specs.Bytes.{eqs}
use Rattle.archive_bundle_form.specs.Forms.{variant_fingerprint, intent_fingerprint, kind_number}
use Rattle.book.specs.Zero.{zero_fee_intent, is_unresolved, is_active}
use Rattle.book.specs.Sound.{readable_bundle, is_attach}
use Rattle.std.specs.Prelude.{Option}
use Rattle.book.specs.declared.Height.{Height}
use Rattle.std.specs.Prelude.{None, Some}
use Rattle.book.specs.declared.SpendBundle.{SpendBundle}
use Rattle.book.specs.declared.SubmissionFeeIntent.{SubmissionFeeIntent}
use Rattle.book.specs.declared.SubmissionChainTerminality.{SubmissionChainTerminality}
use Rattle.book.specs.declared.SubmissionChainTerminality.TheVariants.{Active, InputSpent, Landed}
use Rattle.book.specs.declared.FeeResolution.{FeeResolution}
use Rattle.book.specs.declared.FeeResolution.TheVariants.{Unresolved, NotRequested, Attached}
use Rattle.book.specs.declared.OptionalHash.{OptionalHash}
use Rattle.book.specs.declared.SubmittedEntry.{SubmittedEntry}
use Rattle.book.specs.declared.PendingSubmissionIntent.{PendingSubmissionIntent}

-- `current_bundle`
unfoldable pub current_bundle : SubmittedEntry → SpendBundle
current_bundle e = cond e.state.current_variant.fee_bearing e.state.current_variant.bundle e.intent.base_bundle

-- `current_applied_fee`
unfoldable pub current_applied_fee : SubmittedEntry → ℕ
current_applied_fee e = cond e.state.current_variant.fee_bearing e.state.current_variant.applied_fee 0

-- `current_variant_fingerprint`
unfoldable pub current_fingerprint : SubmittedEntry → List ℕ
unfolding current_bundle variant_fingerprint
current_fingerprint e = variant_fingerprint (current_bundle e)

-- an optional fingerprint is present and this one
unfoldable pub holds_hash : OptionalHash → List ℕ → Bool
holds_hash h f = h.present && eqs h.hash f

-- `current_variant_acknowledged`
unfoldable pub current_acknowledged : SubmittedEntry → Bool
unfolding holds_hash current_fingerprint
current_acknowledged e = holds_hash e.state.wallet_acknowledged_variant (current_fingerprint e)

-- `unresolved_fee_intent` is there
abbrev pub fee_unresolved : SubmittedEntry → Bool
fee_unresolved e = is_unresolved e.state.status.fee_resolution

-- `unresolved_fee_intent`, or `AlreadyPaid`
unfoldable pub open_fee_intent : SubmittedEntry → SubmissionFeeIntent
unfolding zero_fee_intent
open_fee_intent e = cond (fee_unresolved e) e.intent.fee_intent zero_fee_intent

abbrev pub active_entry : SubmittedEntry → Bool
active_entry e = is_active e.state.status.chain_terminality

abbrev pub is_landed : SubmissionChainTerminality → Bool
is_landed Active = false
is_landed InputSpent = false
is_landed Landed = true

abbrev pub is_input_spent : SubmissionChainTerminality → Bool
is_input_spent Active = false
is_input_spent InputSpent = true
is_input_spent Landed = false

unfoldable pub same_fee_intent : SubmissionFeeIntent → SubmissionFeeIntent → Bool
same_fee_intent a b = eqb (kind_number a.kind) (kind_number b.kind) && eqb a.amount b.amount && eqs a.target b.target

-- `submission_intent_fingerprint` of a queue entry's intent: bundle, expiry, fee intent
unfoldable pub intent_of : PendingSubmissionIntent → List ℕ
unfolding intent_fingerprint
intent_of p = intent_fingerprint p.bundle p.expiry p.fee_intent

-- `validate`: fee intent and broadcast variant go together
abbrev pub consistent_fee : FeeResolution → Bool → Bool → Bool
consistent_fee Unresolved attach bearing = attach && not bearing
consistent_fee NotRequested attach bearing = not bearing
consistent_fee Attached attach bearing = bearing

-- `validate`: an acknowledged variant is the base or the current one
unfoldable pub known_acknowledged : SubmittedEntry → Bool
unfolding variant_fingerprint current_fingerprint
known_acknowledged e =
    not e.state.wallet_acknowledged_variant.present
    || eqs e.state.wallet_acknowledged_variant.hash (variant_fingerprint e.intent.base_bundle)
    || eqs e.state.wallet_acknowledged_variant.hash (current_fingerprint e)

-- `SubmittedTx::validate`
unfoldable pub validate : SubmittedEntry → Bool
unfolding readable_bundle known_acknowledged
validate e =
    readable_bundle e.intent.base_bundle
    && consistent_fee e.state.status.fee_resolution (is_attach e.intent.fee_intent.kind) e.state.current_variant.fee_bearing
    && known_acknowledged e

-- `min_expiry`: the smaller one present
unfoldable pub min_expiry : Option Height → Option Height → Option Height
min_expiry None None = None
min_expiry None (Some h) = Some h
min_expiry (Some h) None = Some h
min_expiry (Some g) (Some h) = cond (ltb h.0 g.0) (Some h) (Some g)
