-- The calls of a list, with their arguments, and what they answer besides the submissions that a drain hands out. Tokens, submission ids
-- and heights are numbers here; bytes are lists of numbers; a lent buffer is its length.
use Rattle.std.specs.Prelude.{ℕ, Bool, true, false, cond, List}
use Rattle.std.specs.Prelude.{Option}
use Rattle.book.specs.declared.Height.{Height}
use Rattle.book.specs.declared.SpendBundle.{SpendBundle}
use Rattle.book.specs.declared.SubmissionFeeIntent.{SubmissionFeeIntent}
use Rattle.book.specs.declared.DeliveryAttempt.{DeliveryAttempt}
use Rattle.book.specs.declared.PendingDelivery.{PendingDelivery}
use Rattle.book.specs.declared.SubmissionDeliveryGoal.{SubmissionDeliveryGoal}
use Rattle.book.specs.declared.DeliveryTrigger.{DeliveryTrigger}
use Rattle.book.specs.declared.SubmissionId.{SubmissionId}
use Rattle.std.specs.Prelude.{None, Some}
use Rattle.book_answers.specs.declared.BookSummary.{BookSummary}
use Rattle.book_answers.specs.declared.DrainFailureCause.{DrainFailureCause}
use Rattle.book_answers.specs.declared.DrainFailureCause.TheVariants.{NoRetainedState, FeeIntentDiffers, InvalidRetainedState, IntentDiffers, IdCollides, OutputsUnreadable, IdsExhausted}
use Rattle.book_answers.specs.declared.FinalizedSubmission.{FinalizedSubmission}
use Rattle.book_answers.specs.declared.SubmissionAttemptStatus.{SubmissionAttemptStatus}
use Rattle.book_answers.specs.declared.SubmissionDrainFailure.{SubmissionDrainFailure}
use Rattle.book_answers.specs.declared.SubmissionDrainFailureStage.{SubmissionDrainFailureStage}
use Rattle.book_answers.specs.declared.SubmissionDrainFailureStage.TheVariants as stage
use Rattle.book_answers.specs.declared.SubmissionFeeSource.{SubmissionFeeSource}
use Rattle.book_answers.specs.declared.SubmissionLook.{SubmissionLook}

pub data Call : Type 0 where
  Queue : PendingDelivery → Call
  QueueRebroadcastEpoch : List ℕ → DeliveryTrigger → Call
  QueueFeeReadiness : Call
  QueueRetainedDelivery : ℕ → DeliveryTrigger → SubmissionDeliveryGoal → Call
  Drain : Call
  -- the bundle is the joined one, and zero with any other source
  FinalizeAttempt : ℕ → SubmissionFeeSource → SpendBundle → Call
  FeeIntentForAttempt AcknowledgeAttempt StopAttempt AbandonAttempt RelinquishCompletedAttempt : ℕ → Call
  -- by the ids to remove
  RetainSubmitted : List ℕ → Call
  EmitRetirement : ℕ → Call
  DrainRetirements : Call
  -- landed outputs to retain, buffer
  ReconciliationInputCoins : List ℕ → ℕ → Call
  ActiveIds : Call
  BeginReplay FinishReplayIfAdvanced : Height → Call
  ReplayRollbackHeight : Call
  -- observed coins, spent coin ids, reorg, ids rolled back
  ReconcileChainTerminality : List ℕ → List ℕ → Bool → List ℕ → Call
  -- absent coins, live input ids
  CausallyRolledBackIds : List ℕ → List ℕ → Call
  -- ids, absent coins, buffer
  AbsentOutputsForIds : List ℕ → List ℕ → ℕ → Call
  CollectRollbackReplayIds : List ℕ → Call
  ClearLocalArtifacts RestoreRuntime : Call
  Attempt : ℕ → Call
  -- what one submission holds, and the book in numbers
  Look : ℕ → Call
  Summary : Call
  -- buffer
  WriteArchive : ℕ → Call

-- `SubmissionDrainFailureStage` of a cause
abbrev pub stage_of : DrainFailureCause → SubmissionDrainFailureStage
stage_of NoRetainedState = stage.RetainedState
stage_of FeeIntentDiffers = stage.RetainedState
stage_of InvalidRetainedState = stage.RetainedState
stage_of IntentDiffers = stage.RetainedState
stage_of IdCollides = stage.SubmissionId
stage_of OutputsUnreadable = stage.ExpectedOutputs
stage_of IdsExhausted = stage.SubmissionId

-- the failures that remove their submission
abbrev pub removes : DrainFailureCause → Bool
removes NoRetainedState = false
removes FeeIntentDiffers = true
removes InvalidRetainedState = true
removes IntentDiffers = true
removes IdCollides = false
removes OutputsUnreadable = false
removes IdsExhausted = false

-- `retained_submission_id`
abbrev pub retained_id : SubmissionDrainFailure → Option SubmissionId
retained_id f = cond (removes f.cause) (Some f.candidate_id) None

pub data Value : Type 0 where
  no_value : Value
  failures : List SubmissionDrainFailure → Value
  finalized : Option FinalizedSubmission → Value
  fee_intent_is : Option SubmissionFeeIntent → Value
  status_is : SubmissionAttemptStatus → Value
  ids_are : List ℕ → Value
  flag : Bool → Value
  height_is : Option Height → Value
  attempt_is : Option DeliveryAttempt → Value
  look_is : Option SubmissionLook → Value
  summary_is : BookSummary → Value
  -- into the lent buffer
  written : List ℕ → Value
