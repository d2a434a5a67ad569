-- The calls of a list, and the rules of each: here alone answers of different types come under one, `Value`. Archive writing takes the
-- archive form as an argument.
pub mod Common
pub mod Offer
pub mod Queue
pub mod QueueRetainedDelivery
pub mod QueueRebroadcastEpoch
pub mod QueueFeeReadiness
pub mod Plan
pub mod Candidate
pub mod Drain
pub mod Finalized
pub mod FinalizeAttempt
pub mod FeeIntentForAttempt
pub mod AcknowledgeAttempt
pub mod StopAttempt
pub mod AbandonAttempt
pub mod RelinquishCompletedAttempt
pub mod RetainSubmitted
pub mod EmitRetirement
pub mod DrainRetirements
pub mod ReconciliationInputCoins
pub mod ActiveIds
pub mod Replay
pub mod ReconcileChainTerminality
pub mod CausallyRolledBackIds
pub mod AbsentOutputsForIds
pub mod CollectRollbackReplayIds
pub mod ClearLocalArtifacts
pub mod RestoreRuntime
pub mod Attempt
pub mod Look
pub mod Summary
pub mod WriteArchive
use Rattle.std.specs.Prelude.{ℕ, List}
use Rattle.book.specs.Model.{Book, back}
use Rattle.rules.specs.Call.{Call, Value, no_value, failures, finalized, fee_intent_is, status_is, ids_are, flag, height_is, attempt_is, look_is, summary_is, written}
use Rattle.rules.specs.Calls.AbandonAttempt.{abandon_attempt}
use Rattle.rules.specs.Calls.AbsentOutputsForIds.{absent_outputs_for_ids}
use Rattle.rules.specs.Calls.AcknowledgeAttempt.{acknowledge_attempt}
use Rattle.rules.specs.Calls.ActiveIds.{active_ids}
use Rattle.rules.specs.Calls.Attempt.{attempt}
use Rattle.rules.specs.Calls.CausallyRolledBackIds.{causally_rolled_back_ids}
use Rattle.rules.specs.Calls.ClearLocalArtifacts.{clear_local_artifacts}
use Rattle.rules.specs.Calls.CollectRollbackReplayIds.{collect_rollback_replay_ids}
use Rattle.rules.specs.Calls.Drain.{drain}
use Rattle.rules.specs.Calls.DrainRetirements.{drain_retirements}
use Rattle.rules.specs.Calls.EmitRetirement.{emit_retirement}
use Rattle.rules.specs.Calls.FeeIntentForAttempt.{fee_intent_for_attempt}
use Rattle.rules.specs.Calls.FinalizeAttempt.{finalize_attempt}
use Rattle.rules.specs.Calls.Look.{look_at}
use Rattle.rules.specs.Calls.Queue.{queue}
use Rattle.rules.specs.Calls.QueueFeeReadiness.{queue_fee_readiness}
use Rattle.rules.specs.Calls.QueueRebroadcastEpoch.{queue_rebroadcast_epoch}
use Rattle.rules.specs.Calls.QueueRetainedDelivery.{queue_retained_delivery}
use Rattle.rules.specs.Calls.ReconcileChainTerminality.{reconcile_chain_terminality}
use Rattle.rules.specs.Calls.ReconciliationInputCoins.{reconciliation_input_coins}
use Rattle.rules.specs.Calls.RelinquishCompletedAttempt.{relinquish_completed_attempt}
use Rattle.rules.specs.Calls.Replay.{begin_replay, finish_replay_if_advanced, replay_rollback_height}
use Rattle.rules.specs.Calls.RestoreRuntime.{restore_runtime}
use Rattle.rules.specs.Calls.RetainSubmitted.{retain_submitted}
use Rattle.rules.specs.Calls.StopAttempt.{stop_attempt}
use Rattle.rules.specs.Calls.Summary.{summary}
use Rattle.rules.specs.Calls.WriteArchive.{write_archive}
use Rattle.rules.specs.Rule.{Rule, ◌<$>◌}

abbrev pub nothing : Unit {0} → Value
nothing u = no_value

module _ (encode : Book → List ℕ) where
  unfoldable pub rules : Call → Rule Value
  unfolding queue queue_retained_delivery queue_rebroadcast_epoch queue_fee_readiness drain finalize_attempt fee_intent_for_attempt acknowledge_attempt stop_attempt abandon_attempt relinquish_completed_attempt retain_submitted emit_retirement drain_retirements reconciliation_input_coins active_ids begin_replay finish_replay_if_advanced replay_rollback_height reconcile_chain_terminality causally_rolled_back_ids absent_outputs_for_ids collect_rollback_replay_ids clear_local_artifacts restore_runtime attempt look_at summary write_archive
  rules (Call.Queue d) = nothing <$> queue d
  rules (Call.QueueRebroadcastEpoch is trigger) = nothing <$> queue_rebroadcast_epoch is trigger
  rules Call.QueueFeeReadiness = nothing <$> queue_fee_readiness
  rules (Call.QueueRetainedDelivery i trigger g) = nothing <$> queue_retained_delivery i trigger g
  rules Call.Drain = failures <$> drain
  rules (Call.FinalizeAttempt t source j) = finalized <$> finalize_attempt t source j
  rules (Call.FeeIntentForAttempt t) = fee_intent_is <$> fee_intent_for_attempt t
  rules (Call.AcknowledgeAttempt t) = status_is <$> acknowledge_attempt t
  rules (Call.StopAttempt t) = status_is <$> stop_attempt t
  rules (Call.AbandonAttempt t) = status_is <$> abandon_attempt t
  rules (Call.RelinquishCompletedAttempt t) = status_is <$> relinquish_completed_attempt t
  rules (Call.RetainSubmitted is) = ids_are <$> retain_submitted is
  rules (Call.EmitRetirement i) = nothing <$> emit_retirement i
  rules Call.DrainRetirements = ids_are <$> drain_retirements
  rules (Call.ReconciliationInputCoins outputs room) = written <$> reconciliation_input_coins outputs room
  rules Call.ActiveIds = ids_are <$> active_ids
  rules (Call.BeginReplay h) = flag <$> begin_replay h
  rules (Call.FinishReplayIfAdvanced h) = nothing <$> finish_replay_if_advanced h
  rules Call.ReplayRollbackHeight = height_is <$> replay_rollback_height
  rules (Call.ReconcileChainTerminality observed spent reorg back) = nothing <$> reconcile_chain_terminality observed spent reorg back
  rules (Call.CausallyRolledBackIds absent inputs) = ids_are <$> causally_rolled_back_ids absent inputs
  rules (Call.AbsentOutputsForIds is absent room) = written <$> absent_outputs_for_ids is absent room
  rules (Call.CollectRollbackReplayIds is) = nothing <$> collect_rollback_replay_ids is
  rules Call.ClearLocalArtifacts = nothing <$> clear_local_artifacts
  rules Call.RestoreRuntime = nothing <$> restore_runtime
  rules (Call.Attempt t) = attempt_is <$> attempt t
  rules (Call.Look i) = look_is <$> look_at i
  rules Call.Summary = summary_is <$> summary
  rules (Call.WriteArchive room) = written <$> write_archive encode room
