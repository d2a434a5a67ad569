-- Small books, deliveries and answers that the specimens are made of.
use Rattle.std.specs.Prelude.{ℕ, zero, suc, true, false, List, [], ◌∷◌, replicate}
use Rattle.std.specs.Prelude.{Option, None, Some}
use Rattle.book.specs.declared.Height.{Height}
use Rattle.book.specs.declared.SubmissionFeeIntent.{SubmissionFeeIntent}
use Rattle.book.specs.declared.AttemptSlots.{AttemptSlots}
use Rattle.book.specs.declared.SubmittedEntry.{SubmittedEntry}
use Rattle.book.specs.declared.SubmittedTx.{SubmittedTx}
use Rattle.book.specs.declared.PendingSubmissionIntent.{PendingSubmissionIntent}
use Rattle.book.specs.declared.PendingDelivery.{PendingDelivery}
use Rattle.book.specs.declared.SubmissionId.{SubmissionId}
use Rattle.book.specs.declared.FeeIntentKind.TheVariants.{AlreadyPaid, NoFeeConfigured, Attach}
use Rattle.book.specs.declared.SubmissionDeliveryGoal.TheVariants.{EnsureBroadcast}
use Rattle.book.specs.declared.DeliveryTrigger.TheVariants.{Protocol}
use Rattle.book.specs.declared.SubmissionChainTerminality.{SubmissionChainTerminality}
use Rattle.book.specs.declared.SubmissionChainTerminality.TheVariants.{Active, InputSpent, Landed}
use Rattle.book.specs.declared.FeeResolution.TheVariants.{Unresolved, NotRequested, Attached}
use Rattle.book.specs.Model.{Book}
use Rattle.book.specs.Zero.{zeros, zero_output, zero_spend, zero_bundle, zero_fee_intent, zero_hash, no_attempt, no_slots, base_variant}
use Rattle.archive_bundle_form.specs.Forms.{variant_fingerprint}
use Rattle.book_answers.specs.declared.DrainFailureCause.{DrainFailureCause}
use Rattle.book_answers.specs.declared.DrainedSubmission.{DrainedSubmission}
use Rattle.book_answers.specs.declared.BookSummary.{BookSummary}
use Rattle.book_answers.specs.declared.FeeSourceDisposition.TheVariants as disposition
use Rattle.book_answers.specs.declared.FinalizedSubmission.{FinalizedSubmission}
use Rattle.book.specs.declared.Token.{Token}
use Rattle.book_answers.specs.declared.SubmissionAttemptRelationship.{SubmissionAttemptRelationship}
use Rattle.book_answers.specs.declared.SubmissionDrainFailure.{SubmissionDrainFailure}
use Rattle.rules.specs.Call.{Call, Value, no_value}
use Rattle.rules.specs.Parts.{intent_of}
use Rattle.rules.specs.Rule.{Answer, answer}

unfoldable pub no_archive : Book → List ℕ
no_archive b = []

unfoldable pub height : ℕ → Height
height n = record { 0 = n }

unfoldable pub by_id : ℕ → Option SubmissionId
by_id i = Some (record { 0 = i })

-- 0 for none
abbrev pub height_number : Option Height → ℕ
height_number None = 0
height_number (Some h) = h.0

abbrev pub queued_id : Option SubmissionId → ℕ
queued_id None = 0
queued_id (Some i) = i.0

-- intents of an empty bundle that differ by expiry alone
unfoldable pub intent_by : Option SubmissionId → ℕ → PendingSubmissionIntent
unfolding zero_bundle zero_fee_intent height
intent_by i x = record { id = i; bundle = zero_bundle; expiry = Some (height x); fee_intent = zero_fee_intent }

unfoldable pub delivery : Option SubmissionId → ℕ → PendingDelivery
unfolding intent_by
delivery i x = record { intent = intent_by i x; trigger = Protocol; goal = EnsureBroadcast }

-- an amount that AlreadyPaid leaves unused
unfoldable pub damaged : PendingDelivery
unfolding zero_bundle zero_fee_intent
damaged = record {
  intent = record { id = None; bundle = zero_bundle; expiry = None; fee_intent = record { kind = AlreadyPaid; target = zeros 32; amount = 1 } };
  trigger = Protocol;
  goal = EnsureBroadcast;
}

abbrev pub token_by : Option ℕ → Option Token
token_by None = None
token_by (Some t) = Some (record { 0 = t })

unfoldable pub drained : ℕ → ℕ → Option ℕ → SubmissionAttemptRelationship → ℕ → DrainedSubmission
unfolding zero_bundle zero_fee_intent height
drained i t p r x = record { id = record { 0 = i }; attempt_token = record { 0 = t }; predecessor_attempt_token = token_by p; relationship = r; bundle = zero_bundle; expiry = Some (height x); fee_intent = zero_fee_intent }

unfoldable pub failing : ℕ → DrainFailureCause → ℕ → ℕ → SubmissionDrainFailure
unfolding intent_by
failing n c i x = record { candidate_index = n; cause = c; candidate_id = record { 0 = i }; intent_fingerprint = intent_of (intent_by None x) }

unfoldable pub no_fee : SubmissionFeeIntent
no_fee = record { kind = NoFeeConfigured; target = zeros 32; amount = 0 }

-- a submission of an empty bundle; its fingerprint is that of no intent here
unfoldable pub entry_of : SubmissionFeeIntent → SubmissionChainTerminality → SubmittedEntry
unfolding zero_bundle base_variant zero_hash
entry_of f c = record {
  id = record { 0 = 1 };
  intent = record { intent_fingerprint = zeros 32; base_bundle = zero_bundle; fee_intent = f };
  state = record {
    current_variant = base_variant;
    wallet_acknowledged_variant = zero_hash;
    status = record { fee_resolution = NotRequested; chain_terminality = c; expiry = None };
  };
}

-- one spend, of the coin 07, that makes no coin
unfoldable pub spending : SubmissionChainTerminality → SubmittedEntry
unfolding zero_spend zero_output base_variant zero_hash zero_fee_intent
spending c = record {
  id = record { 0 = 1 };
  intent = record {
    intent_fingerprint = zeros 32;
    base_bundle = record {
      count = 1;
      spends = record { coin_len = 1; coin = 7 ∷ zeros 72; digest = zeros 32; readable = true; output_count = 0; outputs = replicate 4 zero_output } ∷ replicate 3 zero_spend;
    };
    fee_intent = zero_fee_intent;
  };
  state = record {
    current_variant = base_variant;
    wallet_acknowledged_variant = zero_hash;
    status = record { fee_resolution = NotRequested; chain_terminality = c; expiry = None };
  };
}

-- the coin id of 07: its SHA-256
unfoldable pub seventh_id : List ℕ
seventh_id = 202 ∷ 53 ∷ 135 ∷ 88 ∷ 246 ∷ 210 ∷ 126 ∷ 108 ∷ 244 ∷ 82 ∷ 114 ∷ 147 ∷ 121 ∷ 119 ∷ 167 ∷ 72 ∷ 253 ∷ 136 ∷ 57 ∷ 29 ∷ 182 ∷ 121 ∷ 206 ∷ 218 ∷ 125 ∷ 199 ∷ 191 ∷ 31 ∷ 0 ∷ 94 ∷ 232 ∷ 121 ∷ []

unfoldable pub no_coins : List ℕ
no_coins = 0 ∷ 0 ∷ []

unfoldable pub live_slot : ℕ → AttemptSlots
unfolding no_attempt zero_hash
live_slot t = record {
  active_attempt = record { present = true; attempt = record { token = record { 0 = t }; goal = EnsureBroadcast; drained_variant_fingerprint = zeros 32; finalized_variant_fingerprint = zero_hash } };
  completed_attempt = no_attempt;
}

-- the intent fingerprint of `intent_by i 7`, and the variant fingerprint of the empty bundle
unfoldable pub seventh_intent : List ℕ
seventh_intent = 168 ∷ 244 ∷ 202 ∷ 142 ∷ 245 ∷ 48 ∷ 68 ∷ 123 ∷ 89 ∷ 185 ∷ 99 ∷ 91 ∷ 42 ∷ 126 ∷ 20 ∷ 207 ∷ 227 ∷ 7 ∷ 87 ∷ 189 ∷ 106 ∷ 4 ∷ 15 ∷ 249 ∷ 57 ∷ 92 ∷ 20 ∷ 187 ∷ 15 ∷ 93 ∷ 228 ∷ 61 ∷ []

unfoldable pub empty_variant : List ℕ
empty_variant = 110 ∷ 52 ∷ 11 ∷ 156 ∷ 255 ∷ 179 ∷ 122 ∷ 152 ∷ 156 ∷ 165 ∷ 68 ∷ 230 ∷ 187 ∷ 120 ∷ 10 ∷ 44 ∷ 120 ∷ 144 ∷ 29 ∷ 63 ∷ 179 ∷ 55 ∷ 56 ∷ 118 ∷ 133 ∷ 17 ∷ 163 ∷ 6 ∷ 23 ∷ 175 ∷ 160 ∷ 29 ∷ []

-- the submission of `intent_by i 7`, of which the expiry has become 9
unfoldable pub seventh : SubmissionChainTerminality → SubmittedEntry
unfolding zero_bundle base_variant zero_hash zero_fee_intent seventh_intent
seventh c = record {
  id = record { 0 = 1 };
  intent = record { intent_fingerprint = seventh_intent; base_bundle = zero_bundle; fee_intent = zero_fee_intent };
  state = record {
    current_variant = base_variant;
    wallet_acknowledged_variant = zero_hash;
    status = record { fee_resolution = NotRequested; chain_terminality = c; expiry = Some (record { 0 = 9 }) };
  };
}

-- a fee of 3 to be attached
unfoldable pub fee_of3 : SubmissionFeeIntent
fee_of3 = record { kind = Attach; target = zeros 32; amount = 3 }

unfoldable pub fee_open : SubmittedEntry
unfolding zero_bundle base_variant zero_hash fee_of3
fee_open = record {
  id = record { 0 = 1 };
  intent = record { intent_fingerprint = zeros 32; base_bundle = zero_bundle; fee_intent = fee_of3 };
  state = record {
    current_variant = base_variant;
    wallet_acknowledged_variant = zero_hash;
    status = record { fee_resolution = Unresolved; chain_terminality = Active; expiry = None };
  };
}

-- the fee of 3 is attached, and the variant with it, an empty bundle, acknowledged
unfoldable pub fee_attached : SubmittedEntry
unfolding zero_bundle fee_of3 empty_variant
fee_attached = record {
  id = record { 0 = 1 };
  intent = record { intent_fingerprint = zeros 32; base_bundle = zero_bundle; fee_intent = fee_of3 };
  state = record {
    current_variant = record { fee_bearing = true; bundle = zero_bundle; applied_fee = 3 };
    wallet_acknowledged_variant = record { present = true; hash = empty_variant };
    status = record { fee_resolution = Attached; chain_terminality = InputSpent; expiry = Some (record { 0 = 9 }) };
  };
}

-- a live attempt that was drained with the empty bundle
unfoldable pub drained_slot : ℕ → AttemptSlots
unfolding no_attempt zero_hash empty_variant
drained_slot t = record {
  active_attempt = record { present = true; attempt = record { token = record { 0 = t }; goal = EnsureBroadcast; drained_variant_fingerprint = empty_variant; finalized_variant_fingerprint = zero_hash } };
  completed_attempt = no_attempt;
}

unfoldable pub joined_empty : FinalizedSubmission
unfolding zero_bundle
joined_empty = record { bundle = zero_bundle; applied_fee = 3; warning = false; disposition = disposition.Attached; variant_fingerprint = variant_fingerprint zero_bundle; should_broadcast = true }

-- a book that retains one submission, as 1, with these replayed ids
unfoldable pub holding : SubmittedEntry → AttemptSlots → List ℕ → Book
holding e s is = record {
  next_token = record { 0 = 6 };
  next_id = record { 0 = 2 };
  submitted = record { slots = s; entry = e } ∷ [];
  pending = [];
  retired = [];
  rollback = None;
  replayed = is;
}

-- that book in numbers, when n are retired
unfoldable pub counted : ℕ → BookSummary
counted n = record {
  next_delivery_attempt_token = record { 0 = 6 };
  next_submission_id = record { 0 = 2 };
  submitted_count = 1;
  pending_count = 0;
  retired_count = n;
  replayed_count = 1;
  rollback_height = None;
}

abbrev numbered : ℕ → SubmittedTx → SubmittedTx
numbered i t = record { slots = t.slots; entry = record { id = record { 0 = i }; intent = t.entry.intent; state = t.entry.state } }

abbrev up_to : ℕ → List SubmittedTx → List SubmittedTx
up_to zero ts = ts
up_to (suc n) ts = up_to n (numbered (suc n) (record { slots = no_slots; entry = entry_of zero_fee_intent Landed }) ∷ ts)

-- fifteen submissions, 1 to 15
unfoldable pub fifteen : Book
unfolding entry_of zero_fee_intent no_slots
fifteen = record {
  next_token = record { 0 = 5 };
  next_id = record { 0 = 16 };
  submitted = up_to 15 [];
  pending = [];
  retired = [];
  rollback = None;
  replayed = [];
}

-- n times the same is accepted, and accepted
unfoldable pub queueing : ℕ → List Call
unfolding delivery
queueing zero = []
queueing (suc n) = Call.Queue (delivery None 9) ∷ queueing n

unfoldable pub accepted : ℕ → List (Answer Value) → List (Answer Value)
accepted zero rest = rest
accepted (suc n) rest = answer [] no_value ∷ accepted n rest
