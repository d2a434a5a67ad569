-- `FinalizedSubmission`, as `finalize_attempt` answers it.
use Rattle.std.specs.Prelude.{true, false, not, ◌&&◌}
use Rattle.book.specs.declared.SpendBundle.{SpendBundle}
use Rattle.book.specs.declared.SubmittedEntry.{SubmittedEntry}
use Rattle.book.specs.declared.SubmissionDeliveryGoal.{SubmissionDeliveryGoal}
use Rattle.book.specs.Zero.{is_ensure_broadcast}
use Rattle.archive_bundle_form.specs.Forms.{variant_fingerprint}
use Rattle.book_answers.specs.declared.FeeSourceDisposition.TheVariants as disposition
use Rattle.book_answers.specs.declared.FinalizedSubmission.{FinalizedSubmission}
use Rattle.rules.specs.Parts.{current_bundle, current_applied_fee, current_fingerprint, holds_hash, current_acknowledged}

-- the base is broadcast without the fee: `SubmitWithoutFee`
unfoldable pub unused_fee : SubmissionDeliveryGoal → SubmittedEntry → FinalizedSubmission
unfolding current_fingerprint current_acknowledged
unused_fee g e = record {
  bundle = e.intent.base_bundle;
  applied_fee = 0;
  warning = true;
  disposition = disposition.Unused;
  variant_fingerprint = current_fingerprint e;
  should_broadcast = is_ensure_broadcast g && not (current_acknowledged e);
}

-- no fee is open: the current variant
unfoldable pub current_final : SubmissionDeliveryGoal → SubmittedEntry → FinalizedSubmission
unfolding current_bundle current_applied_fee current_fingerprint current_acknowledged
current_final g e = record {
  bundle = current_bundle e;
  applied_fee = current_applied_fee e;
  warning = false;
  disposition = disposition.NotRequested;
  variant_fingerprint = current_fingerprint e;
  should_broadcast = is_ensure_broadcast g && not (current_acknowledged e);
}

-- the joined bundle, with the fee that was asked for
unfoldable pub attached_final : SpendBundle → SubmittedEntry → FinalizedSubmission
unfolding variant_fingerprint holds_hash
attached_final j e = record {
  bundle = j;
  applied_fee = e.intent.fee_intent.amount;
  warning = false;
  disposition = disposition.Attached;
  variant_fingerprint = variant_fingerprint j;
  should_broadcast = not (holds_hash e.state.wallet_acknowledged_variant (variant_fingerprint j));
}
