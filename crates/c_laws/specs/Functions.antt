-- Of the calls of the C library: what is lent for their answers, and which call of demand 3's list each of them is.
use Rattle.std.specs.Prelude.{ℕ, Bool, cond, ◌&&◌, List, [], length}
use Rattle.std.specs.Prelude.{Option, None, Some}
use Rattle.base_coin_string.specs.CoinIds.{id_listb}
use Rattle.base_coin_string.specs.CoinList.{coin_listb}
use Rattle.book.specs.Typed.{Every, U8, U64}
use Rattle.archive_form.specs.Parse.{parse_delivery, parse_trigger, parse_goal}
use Rattle.rules.specs.Call.{Call}
use Rattle.rules.specs.Doors.{ids_ok}
use Rattle.c_boundary.specs.Arguments.{byte_as, bytes_as, flag_in}
use Rattle.c_calls_attempts.specs.Source.{source_in, joined_in}
use Rattle.c_api.specs.Functions.{CCall, Queue, QueueRetainedDelivery, QueueRebroadcastEpoch, QueueFeeReadiness, Drain, FeeIntentForAttempt, AcknowledgeAttempt, StopAttempt, AbandonAttempt, RelinquishCompletedAttempt, Attempt, FinalizeAttempt, RetainSubmitted, ActiveIds, DrainRetirements, ReplayRollbackHeight, Look, Summary, EmitRetirement, FinishReplayIfAdvanced, ClearLocalArtifacts, RestoreRuntime, ReconcileChainTerminality, CausallyRolledBackIds, ReconciliationInputCoins, AbsentOutputsForIds, BeginReplay, CollectRollbackReplayIds, Write}

-- what is lent for the answer; nothing where a function has none
pub record Lent : Type 0 where
  pub answer : List ℕ
  pub count : ℕ

abbrev lending : List ℕ → ℕ → Lent
lending a k = record { answer = a; count = k }

abbrev pub lent : CCall → Lent
lent (Queue delivery) = lending [] 0
lent (QueueRetainedDelivery id trigger goal) = lending [] 0
lent (QueueRebroadcastEpoch ids trigger) = lending [] 0
lent QueueFeeReadiness = lending [] 0
lent (Drain answer) = lending answer 0
lent (FeeIntentForAttempt token answer) = lending answer 0
lent (AcknowledgeAttempt token answer) = lending answer 0
lent (StopAttempt token answer) = lending answer 0
lent (AbandonAttempt token answer) = lending answer 0
lent (RelinquishCompletedAttempt token answer) = lending answer 0
lent (Attempt token answer) = lending answer 0
lent (FinalizeAttempt token source joined answer) = lending answer 0
lent (RetainSubmitted removed answer) = lending answer 0
lent (ActiveIds answer) = lending answer 0
lent (DrainRetirements answer) = lending answer 0
lent (ReplayRollbackHeight answer) = lending answer 0
lent (Look id answer) = lending answer 0
lent (Summary answer) = lending answer 0
lent (EmitRetirement id) = lending [] 0
lent (FinishReplayIfAdvanced height) = lending [] 0
lent ClearLocalArtifacts = lending [] 0
lent RestoreRuntime = lending [] 0
lent (ReconcileChainTerminality observed spent reorg back) = lending [] 0
lent (CausallyRolledBackIds absent inputs answer) = lending answer 0
lent (ReconciliationInputCoins outputs answer count) = lending answer count
lent (AbsentOutputsForIds ids absent answer count) = lending answer count
lent (BeginReplay height answer) = lending answer 0
lent (CollectRollbackReplayIds ids) = lending [] 0
lent (Write archive length) = lending archive length

-- what a call of the library asks of the book: a call of demand 3's list; or nothing, where a list is refused 2 or a byte argument stands for
-- no value (3)
pub data Asked : Type 0 where
  asks : Call → Asked
  bad_list bad_value : Asked

-- an argument that must stand for a value
abbrev pub value : {A : Type 0} → Option A → (A → Asked) → Asked
value None f = bad_value
value (Some x) f = f x

-- behind lists that are ok or not: 2 comes before 3
abbrev pub value_behind : {A : Type 0} → Bool → Option A → (A → Asked) → Asked
value_behind ok None f = cond ok bad_value bad_list
value_behind ok (Some x) f = f x

abbrev pub call_of : CCall → Asked
call_of (Queue delivery) = value (bytes_as parse_delivery delivery) (λ d. asks (Call.Queue d))
call_of (QueueRetainedDelivery id trigger goal) =
    value (byte_as parse_trigger trigger) (λ t. value (byte_as parse_goal goal) (λ g. asks (Call.QueueRetainedDelivery id t g)))
call_of (QueueRebroadcastEpoch ids trigger) = value_behind (ids_ok ids) (byte_as parse_trigger trigger) (λ t. asks (Call.QueueRebroadcastEpoch ids t))
call_of QueueFeeReadiness = asks Call.QueueFeeReadiness
call_of (Drain answer) = asks Call.Drain
call_of (FeeIntentForAttempt token answer) = asks (Call.FeeIntentForAttempt token)
call_of (AcknowledgeAttempt token answer) = asks (Call.AcknowledgeAttempt token)
call_of (StopAttempt token answer) = asks (Call.StopAttempt token)
call_of (AbandonAttempt token answer) = asks (Call.AbandonAttempt token)
call_of (RelinquishCompletedAttempt token answer) = asks (Call.RelinquishCompletedAttempt token)
call_of (Attempt token answer) = asks (Call.Attempt token)
call_of (FinalizeAttempt token source joined answer) =
    value (source_in source) (λ s. value (joined_in source joined) (λ j. asks (Call.FinalizeAttempt token s j)))
call_of (RetainSubmitted removed answer) = asks (Call.RetainSubmitted removed)
call_of (ActiveIds answer) = asks Call.ActiveIds
call_of (DrainRetirements answer) = asks Call.DrainRetirements
call_of (ReplayRollbackHeight answer) = asks Call.ReplayRollbackHeight
call_of (Look id answer) = asks (Call.Look id)
call_of (Summary answer) = asks Call.Summary
call_of (EmitRetirement id) = asks (Call.EmitRetirement id)
call_of (FinishReplayIfAdvanced height) = asks (Call.FinishReplayIfAdvanced (record { 0 = height }))
call_of ClearLocalArtifacts = asks Call.ClearLocalArtifacts
call_of RestoreRuntime = asks Call.RestoreRuntime
call_of (ReconcileChainTerminality observed spent reorg back) =
    value_behind (coin_listb observed && id_listb spent && ids_ok back) (flag_in reorg) (λ f. asks (Call.ReconcileChainTerminality observed spent f back))
call_of (CausallyRolledBackIds absent inputs answer) = asks (Call.CausallyRolledBackIds absent inputs)
call_of (ReconciliationInputCoins outputs answer count) = asks (Call.ReconciliationInputCoins outputs (length answer))
call_of (AbsentOutputsForIds ids absent answer count) = asks (Call.AbsentOutputsForIds ids absent (length answer))
call_of (BeginReplay height answer) = asks (Call.BeginReplay (record { 0 = height }))
call_of (CollectRollbackReplayIds ids) = asks (Call.CollectRollbackReplayIds ids)
call_of (Write archive k) = asks (Call.WriteArchive (length archive))

-- what holds of the call that is asked, if one is
abbrev pub OnCall : (Call → Type 0) → Asked → Type 0
OnCall P (asks c) = P c
OnCall P bad_list = Unit {0}
OnCall P bad_value = Unit {0}

-- what C's types say of the arguments, as far as it is needed: bytes are bytes, and numbers that are kept have 64 bits
abbrev pub TypedC : CCall → Type 0
TypedC (Queue delivery) = Every U8 delivery
TypedC (QueueRetainedDelivery id trigger goal) = Unit {0}
TypedC (QueueRebroadcastEpoch ids trigger) = Unit {0}
TypedC QueueFeeReadiness = Unit {0}
TypedC (Drain answer) = Unit {0}
TypedC (FeeIntentForAttempt token answer) = Unit {0}
TypedC (AcknowledgeAttempt token answer) = Unit {0}
TypedC (StopAttempt token answer) = Unit {0}
TypedC (AbandonAttempt token answer) = Unit {0}
TypedC (RelinquishCompletedAttempt token answer) = Unit {0}
TypedC (Attempt token answer) = Unit {0}
TypedC (FinalizeAttempt token source joined answer) = Every U8 joined
TypedC (RetainSubmitted removed answer) = Unit {0}
TypedC (ActiveIds answer) = Unit {0}
TypedC (DrainRetirements answer) = Unit {0}
TypedC (ReplayRollbackHeight answer) = Unit {0}
TypedC (Look id answer) = Unit {0}
TypedC (Summary answer) = Unit {0}
TypedC (EmitRetirement id) = U64 id
TypedC (FinishReplayIfAdvanced height) = Unit {0}
TypedC ClearLocalArtifacts = Unit {0}
TypedC RestoreRuntime = Unit {0}
TypedC (ReconcileChainTerminality observed spent reorg back) = Unit {0}
TypedC (CausallyRolledBackIds absent inputs answer) = Unit {0}
TypedC (ReconciliationInputCoins outputs answer count) = Unit {0}
TypedC (AbsentOutputsForIds ids absent answer count) = Unit {0}
TypedC (BeginReplay height answer) = U64 height
TypedC (CollectRollbackReplayIds ids) = Unit {0}
TypedC (Write archive length) = Unit {0}
