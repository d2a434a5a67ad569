-- What issuing, setting aside and finalising make of the two attempt slots of a submission, and what issuing hands out.
use Rattle.std.specs.Prelude.{ℕ, true, cond, List}
use Rattle.base_lists.specs.Bytes.{eqs}
use Rattle.book.specs.Zero.{zero_hash, no_attempt, is_ensure_broadcast}
use Rattle.book.specs.declared.SubmissionDeliveryGoal.{SubmissionDeliveryGoal}
use Rattle.book.specs.declared.DeliveryAttempt.{DeliveryAttempt}
use Rattle.book.specs.declared.OptionalAttempt.{OptionalAttempt}
use Rattle.book.specs.declared.AttemptSlots.{AttemptSlots}
use Rattle.book.specs.declared.SubmittedEntry.{SubmittedEntry}
use Rattle.rules.specs.Parts.{current_bundle, current_fingerprint, open_fee_intent}
use Rattle.book_answers.specs.declared.DrainedSubmission.{DrainedSubmission}
use Rattle.std.specs.Prelude.{Option}
use Rattle.book.specs.declared.Token.{Token}
use Rattle.std.specs.Prelude.{None, Some}
use Rattle.book_answers.specs.declared.SubmissionAttemptRelationship.{SubmissionAttemptRelationship}
use Rattle.book_answers.specs.declared.SubmissionAttemptRelationship.TheVariants.{Initial, Exact, NewerFeeBearing, Other}

abbrev pub present : DeliveryAttempt → OptionalAttempt
present a = record { present = true; attempt = a }

unfoldable pub issue_attempt : ℕ → SubmissionDeliveryGoal → List ℕ → DeliveryAttempt
unfolding zero_hash
issue_attempt t g v = record { token = record { 0 = t }; goal = g; drained_variant_fingerprint = v; finalized_variant_fingerprint = zero_hash }

-- "Issuing takes the live slot, else the set-aside one, as predecessor"
unfoldable pub taken : AttemptSlots → OptionalAttempt
taken s = cond s.active_attempt.present s.active_attempt s.completed_attempt

-- the slot that is not taken stays
unfoldable pub slots_issued : DeliveryAttempt → AttemptSlots → AttemptSlots
unfolding no_attempt
slots_issued a s = record { active_attempt = present a; completed_attempt = cond s.active_attempt.present s.completed_attempt no_attempt }

-- the live attempt, if any, goes to the set-aside slot
unfoldable pub slots_aside : AttemptSlots → AttemptSlots
unfolding no_attempt
slots_aside s = cond s.active_attempt.present (record { active_attempt = no_attempt; completed_attempt = s.active_attempt }) s

abbrev pub attempt_final : List ℕ → DeliveryAttempt → DeliveryAttempt
attempt_final v a = record {
  token = a.token;
  goal = a.goal;
  drained_variant_fingerprint = a.drained_variant_fingerprint;
  finalized_variant_fingerprint = record { present = true; hash = v };
}

-- the live attempt, if any, gets its final fingerprint
unfoldable pub slots_final : List ℕ → AttemptSlots → AttemptSlots
slots_final v s = cond s.active_attempt.present
    (record { active_attempt = present (attempt_final v s.active_attempt.attempt); completed_attempt = s.completed_attempt })
    s

-- `resolved_variant_fingerprint`
unfoldable pub resolved : DeliveryAttempt → List ℕ
resolved a = cond a.finalized_variant_fingerprint.present a.finalized_variant_fingerprint.hash a.drained_variant_fingerprint

-- `issue_attempt`: the relationship to the predecessor
unfoldable pub relationship_to : OptionalAttempt → SubmissionDeliveryGoal → List ℕ → SubmissionAttemptRelationship
unfolding resolved
relationship_to p g v = cond p.present (cond (is_ensure_broadcast g) (cond (eqs (resolved p.attempt) v) Exact Other) NewerFeeBearing) Initial

abbrev pub token_in : OptionalAttempt → Option Token
token_in p = cond p.present (Some p.attempt.token) None

-- what a drain hands out for a submission that gets a token
unfoldable pub handed : ℕ → SubmissionDeliveryGoal → SubmittedEntry → OptionalAttempt → DrainedSubmission
unfolding relationship_to current_bundle current_fingerprint open_fee_intent
handed t g e p = record {
  id = e.id;
  attempt_token = record { 0 = t };
  predecessor_attempt_token = token_in p;
  relationship = relationship_to p g (current_fingerprint e);
  bundle = current_bundle e;
  expiry = e.state.status.expiry;
  fee_intent = open_fee_intent e;
}
