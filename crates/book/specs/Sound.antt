-- Paper 01, "Sound": within these ranges; retained ids distinct; slot tokens distinct and below next token; base bundles
-- readable; retirements distinct; replayed ids retained (the archive has them rising); every cell that a count or mark leaves
-- unused is zero. That numbers are within their types and arrays of their lengths is the type's own matter.
use Rattle.std.specs.Prelude.{Bool, true, false, cond, ◌&&◌, ◌||◌, List, [], ◌∷◌, ◌++◌, map, ℕ, leb, ltb, take}
use Rattle.base_lists.specs.Lists.{elemb, distinctb, risingb, tail_of, is_zero}
use Rattle.std.specs.List.{list_all, flat_map}
use Rattle.book.specs.Zero.{is_zero32, is_zero_output, is_zero_spend, is_zero_hash, is_no_attempt, is_base_variant, is_zero_submitted, is_zero_delivery}
use Rattle.book.specs.Model.{Book, view}
use Rattle.book.specs.declared.Output.{Output}
use Rattle.book.specs.declared.CoinSpend.{CoinSpend}
use Rattle.book.specs.declared.SpendBundle.{SpendBundle}
use Rattle.book.specs.declared.FeeIntentKind.{FeeIntentKind}
use Rattle.book.specs.declared.FeeIntentKind.TheVariants.{AlreadyPaid, NoFeeConfigured, Attach}
use Rattle.book.specs.declared.SubmissionFeeIntent.{SubmissionFeeIntent}
use Rattle.book.specs.declared.OptionalHash.{OptionalHash}
use Rattle.book.specs.declared.OptionalAttempt.{OptionalAttempt}
use Rattle.book.specs.declared.AttemptSlots.{AttemptSlots}
use Rattle.book.specs.declared.SubmissionBroadcastVariant.{SubmissionBroadcastVariant}
use Rattle.book.specs.declared.RetainedIntent.{RetainedIntent}
use Rattle.book.specs.declared.SubmissionState.{SubmissionState}
use Rattle.book.specs.declared.SubmittedEntry.{SubmittedEntry}
use Rattle.book.specs.declared.SubmittedTx.{SubmittedTx}
use Rattle.book.specs.declared.PendingSubmissionIntent.{PendingSubmissionIntent}
use Rattle.book.specs.declared.PendingDelivery.{PendingDelivery}
use Rattle.book.specs.declared.BookData.{BookData}

-- ---- bundles
-- the coin has at most 73 bytes, the run at most four outputs, none where it is unreadable, and what is unused is zero
unfoldable pub sound_spend : CoinSpend → Bool
unfolding is_zero_output
sound_spend s =
    leb s.coin_len 73 && tail_of 73 is_zero s.coin_len s.coin && leb s.output_count 4
    && tail_of 4 is_zero_output s.output_count s.outputs && (s.readable || is_zero s.output_count)

-- the spends of a bundle, and the outputs of a spend
abbrev pub spends_of : SpendBundle → List CoinSpend
spends_of b = take b.count b.spends

abbrev pub outputs_of : CoinSpend → List Output
outputs_of s = take s.output_count s.outputs

unfoldable pub sound_bundle : SpendBundle → Bool
unfolding is_zero_spend sound_spend
sound_bundle b = leb b.count 4 && tail_of 4 is_zero_spend b.count b.spends && list_all sound_spend (spends_of b)

-- every run can be read: `expected_output_coins` succeeds
unfoldable pub readable_bundle : SpendBundle → Bool
readable_bundle b = list_all (λ s. s.readable) (spends_of b)

-- ---- parts
abbrev pub is_attach : FeeIntentKind → Bool
is_attach AlreadyPaid = false
is_attach NoFeeConfigured = false
is_attach Attach = true

-- only `Attach` has a target and an amount
unfoldable pub sound_fee_intent : SubmissionFeeIntent → Bool
sound_fee_intent f = is_attach f.kind || (is_zero f.amount && is_zero32 f.target)

unfoldable pub sound_hash : OptionalHash → Bool
unfolding is_zero_hash
sound_hash h = h.present || is_zero_hash h

unfoldable pub sound_attempt : OptionalAttempt → Bool
unfolding is_no_attempt sound_hash
sound_attempt a = cond a.present (sound_hash a.attempt.finalized_variant_fingerprint) (is_no_attempt a)

unfoldable pub sound_slots : AttemptSlots → Bool
unfolding sound_attempt
sound_slots s = sound_attempt s.active_attempt && sound_attempt s.completed_attempt

unfoldable pub sound_variant : SubmissionBroadcastVariant → Bool
unfolding sound_bundle is_base_variant
sound_variant v = cond v.fee_bearing (sound_bundle v.bundle) (is_base_variant v)

unfoldable pub sound_retained_intent : RetainedIntent → Bool
unfolding sound_bundle readable_bundle sound_fee_intent
sound_retained_intent p = sound_bundle p.base_bundle && readable_bundle p.base_bundle && sound_fee_intent p.fee_intent

unfoldable pub sound_state : SubmissionState → Bool
unfolding sound_variant sound_hash
sound_state s = sound_variant s.current_variant && sound_hash s.wallet_acknowledged_variant

unfoldable pub sound_entry : SubmittedEntry → Bool
unfolding sound_retained_intent sound_state
sound_entry e = sound_retained_intent e.intent && sound_state e.state

unfoldable pub sound_submitted : SubmittedTx → Bool
unfolding sound_slots sound_entry
sound_submitted t = sound_slots t.slots && sound_entry t.entry

unfoldable pub sound_intent : PendingSubmissionIntent → Bool
unfolding sound_bundle sound_fee_intent
sound_intent p = sound_bundle p.bundle && sound_fee_intent p.fee_intent

unfoldable pub sound_delivery : PendingDelivery → Bool
unfolding sound_intent
sound_delivery d = sound_intent d.intent

-- ---- the book
abbrev pub id_of : SubmittedTx → ℕ
id_of t = t.entry.id.0

abbrev pub attempt_token : OptionalAttempt → List ℕ
attempt_token a = cond a.present (a.attempt.token.0 ∷ []) []

-- the tokens that the two slots hold
abbrev pub slot_tokens : AttemptSlots → List ℕ
slot_tokens s = attempt_token s.active_attempt ++ attempt_token s.completed_attempt

abbrev pub tokens_of : SubmittedTx → List ℕ
tokens_of t = slot_tokens t.slots

-- the rules over the lists of a book; `risingb`: each number is below the next
unfoldable pub sound_lists : Book → Bool
unfolding sound_submitted sound_delivery
sound_lists m =
    list_all sound_submitted m.submitted && distinctb (map id_of m.submitted) && distinctb (flat_map tokens_of m.submitted)
    && list_all (λ t. ltb t m.next_token.0) (flat_map tokens_of m.submitted) && list_all sound_delivery m.pending && distinctb m.retired
    && risingb m.replayed && list_all (λ i. elemb i (map id_of m.submitted)) m.replayed

-- counts within their limits, and zero behind them
unfoldable pub sound_cells : BookData → Bool
unfolding is_zero_submitted is_zero_delivery
sound_cells b =
    leb b.submitted_count 16 && tail_of 16 is_zero_submitted b.submitted_count b.submitted
    && leb b.pending_count 16 && tail_of 16 is_zero_delivery b.pending_count b.pending_deliveries
    && leb b.retired_submission_ids.count 64 && tail_of 64 is_zero b.retired_submission_ids.count b.retired_submission_ids.items
    && leb b.replay_epoch.replayed_submission_ids.count 16
    && tail_of 16 is_zero b.replay_epoch.replayed_submission_ids.count b.replay_epoch.replayed_submission_ids.items

unfoldable pub soundb : BookData → Bool
unfolding sound_cells sound_lists view
soundb b = sound_cells b && sound_lists (view b)
