-- The zero of each answer, which every unused cell of a list of them holds.
use Rattle.book.specs.Zero.{zeros, zero_bundle, zero_fee_intent}
use Rattle.std.specs.Prelude.{None}
use Rattle.book_answers.specs.declared.DrainFailureCause.TheVariants.{NoRetainedState}
use Rattle.book_answers.specs.declared.DrainedSubmission.{DrainedSubmission}
use Rattle.book_answers.specs.declared.SubmissionAttemptRelationship.TheVariants.{Initial}
use Rattle.book_answers.specs.declared.SubmissionDrainFailure.{SubmissionDrainFailure}

unfoldable pub zero_drained : DrainedSubmission
unfolding zero_bundle zero_fee_intent
zero_drained = record {
  id = record { 0 = 0 };
  attempt_token = record { 0 = 0 };
  predecessor_attempt_token = None;
  relationship = Initial;
  bundle = zero_bundle;
  expiry = None;
  fee_intent = zero_fee_intent;
}

unfoldable pub zero_failure : SubmissionDrainFailure
zero_failure = record {
  candidate_index = 0;
  cause = NoRetainedState;
  candidate_id = record { 0 = 0 };
  intent_fingerprint = zeros 32;
}
