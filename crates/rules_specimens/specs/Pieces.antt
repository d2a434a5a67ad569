-- Books, a bundle with outputs and a candidate that cannot be read, for the specimens.
use Rattle.std.specs.Prelude.{ℕ, true, false, List, [], ◌∷◌, ◌++◌, replicate}
use Rattle.book.specs.declared.SpendBundle.{SpendBundle}
use Rattle.book.specs.declared.SubmittedEntry.{SubmittedEntry}
use Rattle.book.specs.declared.SubmittedTx.{SubmittedTx}
use Rattle.book.specs.declared.PendingDelivery.{PendingDelivery}
use Rattle.std.specs.Prelude.{None}
use Rattle.book.specs.declared.SubmissionDeliveryGoal.TheVariants.{EnsureBroadcast}
use Rattle.book.specs.declared.DeliveryTrigger.TheVariants.{Protocol}
use Rattle.book.specs.declared.SubmissionChainTerminality.{SubmissionChainTerminality}
use Rattle.book.specs.declared.FeeResolution.TheVariants.{NotRequested, Attached}
use Rattle.book.specs.Model.{Book}
use Rattle.book.specs.Zero.{zeros, zero_output, zero_spend, zero_fee_intent, zero_hash, no_slots, base_variant}
use Rattle.book_answers.specs.declared.DrainFailureCause.{DrainFailureCause}
use Rattle.book_answers.specs.declared.SubmissionDrainFailure.{SubmissionDrainFailure}
use Rattle.rules.specs.Parts.{intent_of}
use Rattle.rules.specs.Steps.Entry.{with_state, with_status, with_resolution}
use Rattle.rules.specs.Examples.Pieces.{seventh_id}

-- a submission of this bundle
unfoldable pub entry_for : ℕ → SpendBundle → SubmissionChainTerminality → SubmittedEntry
unfolding base_variant zero_hash zero_fee_intent
entry_for i s c = record {
  id = record { 0 = i };
  intent = record { intent_fingerprint = zeros 32; base_bundle = s; fee_intent = zero_fee_intent };
  state = record {
    current_variant = base_variant;
    wallet_acknowledged_variant = zero_hash;
    status = record { fee_resolution = NotRequested; chain_terminality = c; expiry = None };
  };
}

-- sound, but `validate` fails: the fee counts as attached and the variant is the base
unfoldable pub attached_to_base : SubmittedEntry → SubmittedEntry
attached_to_base e = with_state (λ p s. with_status (with_resolution Attached s.status) s) e

-- one spend, of the coin 07, that makes two coins, of the amounts 1 and 2
unfoldable pub payment : SpendBundle
unfolding zero_spend zero_output
payment = record {
  count = 1;
  spends = record {
    coin_len = 1;
    coin = 7 ∷ zeros 72;
    digest = zeros 32;
    readable = true;
    output_count = 2;
    outputs = record { puzzle_hash = zeros 32; amount = 1 } ∷ record { puzzle_hash = zeros 32; amount = 2 } ∷ replicate 2 zero_output;
  } ∷ replicate 3 zero_spend;
}

-- the coin list of its second output alone: parent, puzzle hash, amount
unfoldable pub second_output : List ℕ
unfolding seventh_id
second_output = 0 ∷ 1 ∷ 65 ∷ seventh_id ++ zeros 32 ++ 2 ∷ []

-- a candidate of one spend whose run is unreadable
unfoldable pub unreadable : PendingDelivery
unfolding zero_spend zero_output zero_fee_intent
unreadable = record {
  intent = record {
    id = None;
    bundle = record {
      count = 1;
      spends = record { coin_len = 1; coin = 7 ∷ zeros 72; digest = zeros 32; readable = false; output_count = 0; outputs = replicate 4 zero_output } ∷ replicate 3 zero_spend;
    };
    expiry = None;
    fee_intent = zero_fee_intent;
  };
  trigger = Protocol;
  goal = EnsureBroadcast;
}

unfoldable pub failing_as : ℕ → DrainFailureCause → ℕ → PendingDelivery → SubmissionDrainFailure
failing_as n c i d = record { candidate_index = n; cause = c; candidate_id = record { 0 = i }; intent_fingerprint = intent_of d.intent }

-- a book that retains submissions without attempts
unfoldable pub retaining : ℕ → ℕ → List SubmittedTx → Book
retaining token id ts = record {
  next_token = record { 0 = token };
  next_id = record { 0 = id };
  submitted = ts;
  pending = [];
  retired = [];
  rollback = None;
  replayed = [];
}

unfoldable pub unattempted : SubmittedEntry → SubmittedTx
unfolding no_slots
unattempted e = record { slots = no_slots; entry = e }
