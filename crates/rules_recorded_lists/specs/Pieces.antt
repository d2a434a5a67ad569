-- Short forms for the books, arguments and answers of the recorded lists: counted cells from plain lists, marks from their parts.
use Rattle.std.specs.Prelude.{ℕ, zero, suc, Bool, true, false, List, [], ◌∷◌, ◌++◌, length, replicate}
use Rattle.std.specs.Prelude.{Option, None, Some}
use Rattle.base_lists.specs.Lists.{cells}
use Rattle.book.specs.Model.{Book}
use Rattle.book.specs.Zero.{zeros, zero_output, zero_spend, zero_bundle, zero_hash, no_attempt, base_variant}
use Rattle.book.specs.declared.Height.{Height}
use Rattle.book.specs.declared.SubmissionId.{SubmissionId}
use Rattle.book.specs.declared.Output.{Output}
use Rattle.book.specs.declared.CoinSpend.{CoinSpend}
use Rattle.book.specs.declared.SpendBundle.{SpendBundle}
use Rattle.book.specs.declared.FeeIntentKind.{FeeIntentKind}
use Rattle.book.specs.declared.FeeIntentKind.TheVariants.{AlreadyPaid, NoFeeConfigured, Attach}
use Rattle.book.specs.declared.SubmissionFeeIntent.{SubmissionFeeIntent}
use Rattle.book.specs.declared.SubmissionDeliveryGoal.{SubmissionDeliveryGoal}
use Rattle.book.specs.declared.DeliveryTrigger.{DeliveryTrigger}
use Rattle.book.specs.declared.SubmissionChainTerminality.{SubmissionChainTerminality}
use Rattle.book.specs.declared.FeeResolution.{FeeResolution}
use Rattle.book.specs.declared.OptionalHash.{OptionalHash}
use Rattle.book.specs.declared.DeliveryAttempt.{DeliveryAttempt}
use Rattle.book.specs.declared.OptionalAttempt.{OptionalAttempt}
use Rattle.book.specs.declared.SubmissionBroadcastVariant.{SubmissionBroadcastVariant}
use Rattle.book.specs.declared.SubmittedTx.{SubmittedTx}
use Rattle.book.specs.declared.PendingDelivery.{PendingDelivery}
use Rattle.book_answers.specs.declared.DrainFailureCause.{DrainFailureCause}
use Rattle.book_answers.specs.declared.DrainedSubmission.{DrainedSubmission}
use Rattle.book_answers.specs.declared.FeeSourceDisposition.{FeeSourceDisposition}
use Rattle.book_answers.specs.declared.FinalizedSubmission.{FinalizedSubmission}
use Rattle.book_answers.specs.declared.SubmissionAttemptRelationship.{SubmissionAttemptRelationship}
use Rattle.book_answers.specs.declared.SubmissionDrainFailure.{SubmissionDrainFailure}
use Rattle.rules.specs.Examples.Pieces.{token_by}

-- ---- bytes and numbers
-- eight bytes, big-endian, of a number below 256
abbrev pub num : ℕ → List ℕ
num n = zeros 7 ++ (n ∷ [])

-- n numbers from m upward
abbrev pub count_from : ℕ → ℕ → List ℕ
count_from m zero = []
count_from m (suc n) = m ∷ count_from (suc m) n

abbrev pub height : ℕ → Height
height n = record { 0 = n }

abbrev pub at : ℕ → Option Height
at n = Some (height n)

abbrev pub by_id : ℕ → Option SubmissionId
by_id i = Some (record { 0 = i })

-- ---- bundles and fee intents
abbrev pub output : List ℕ → ℕ → Output
output h n = record { puzzle_hash = h; amount = n }

-- a spend as its cells stand, damaged ones too
abbrev pub spend_cells : ℕ → List ℕ → List ℕ → Bool → ℕ → List Output → CoinSpend
spend_cells l c d r n os = record { coin_len = l; coin = c; digest = d; readable = r; output_count = n; outputs = os }

abbrev pub spend : List ℕ → List ℕ → List Output → CoinSpend
spend c d os = spend_cells (length c) (cells 73 0 c) d true (length os) (cells 4 zero_output os)

abbrev pub unreadable : List ℕ → List ℕ → CoinSpend
unreadable c d = spend_cells (length c) (cells 73 0 c) d false 0 (cells 4 zero_output [])

abbrev pub bundle_cells : ℕ → List CoinSpend → SpendBundle
bundle_cells n ss = record { count = n; spends = ss }

abbrev pub bundle_of : List CoinSpend → SpendBundle
bundle_of ss = bundle_cells (length ss) (cells 4 zero_spend ss)

abbrev pub fee_cells : FeeIntentKind → List ℕ → ℕ → SubmissionFeeIntent
fee_cells k h n = record { kind = k; target = h; amount = n }

abbrev pub already_paid : SubmissionFeeIntent
already_paid = fee_cells AlreadyPaid (zeros 32) 0

abbrev pub no_fee : SubmissionFeeIntent
no_fee = fee_cells NoFeeConfigured (zeros 32) 0

abbrev pub attach : List ℕ → ℕ → SubmissionFeeIntent
attach = fee_cells Attach

-- ---- a book
abbrev pub delivery : Option SubmissionId → SpendBundle → Option Height → SubmissionFeeIntent → DeliveryTrigger → SubmissionDeliveryGoal → PendingDelivery
delivery i b x f t g = record { intent = record { id = i; bundle = b; expiry = x; fee_intent = f }; trigger = t; goal = g }

abbrev pub hash : List ℕ → OptionalHash
hash h = record { present = true; hash = h }

abbrev pub attempt : ℕ → SubmissionDeliveryGoal → List ℕ → OptionalHash → DeliveryAttempt
attempt t g d f = record { token = record { 0 = t }; goal = g; drained_variant_fingerprint = d; finalized_variant_fingerprint = f }

abbrev pub held : DeliveryAttempt → OptionalAttempt
held a = record { present = true; attempt = a }

abbrev pub fee_bearing : SpendBundle → ℕ → SubmissionBroadcastVariant
fee_bearing b n = record { fee_bearing = true; bundle = b; applied_fee = n }

-- as the archive has it: id, live and set-aside attempt, intent fingerprint, base bundle, variant, mark, fee intent, acknowledged, chain, expiry
abbrev pub submission : ℕ → OptionalAttempt → OptionalAttempt → List ℕ → SpendBundle → SubmissionBroadcastVariant → FeeResolution → SubmissionFeeIntent → OptionalHash
    → SubmissionChainTerminality → Option Height → SubmittedTx
submission i a s h b v r f k c x = record {
  slots = record { active_attempt = a; completed_attempt = s };
  entry = record {
    id = record { 0 = i };
    intent = record { intent_fingerprint = h; base_bundle = b; fee_intent = f };
    state = record {
      current_variant = v;
      wallet_acknowledged_variant = k;
      status = record { fee_resolution = r; chain_terminality = c; expiry = x };
    };
  };
}

abbrev pub book_of : ℕ → ℕ → List SubmittedTx → List PendingDelivery → List ℕ → Option Height → List ℕ → Book
book_of t i ss ds rs h is = record { next_token = record { 0 = t }; next_id = record { 0 = i }; submitted = ss; pending = ds; retired = rs; rollback = h; replayed = is }

-- ---- answers
-- id, token, predecessor, relationship, bundle, expiry, fee intent
abbrev pub drained : ℕ → ℕ → Option ℕ → SubmissionAttemptRelationship → SpendBundle → Option Height → SubmissionFeeIntent → DrainedSubmission
drained i t p r b x f = record { id = record { 0 = i }; attempt_token = record { 0 = t }; predecessor_attempt_token = token_by p; relationship = r; bundle = b; expiry = x; fee_intent = f }

-- index, cause, candidate id, intent fingerprint
abbrev pub failed : ℕ → DrainFailureCause → ℕ → List ℕ → SubmissionDrainFailure
failed n c i h = record { candidate_index = n; cause = c; candidate_id = record { 0 = i }; intent_fingerprint = h }

-- bundle, applied fee, warning, disposition, fingerprint, to broadcast
abbrev pub finalized_as : SpendBundle → ℕ → Bool → FeeSourceDisposition → List ℕ → Bool → FinalizedSubmission
finalized_as b n w d h s = record { bundle = b; applied_fee = n; warning = w; disposition = d; variant_fingerprint = h; should_broadcast = s }
