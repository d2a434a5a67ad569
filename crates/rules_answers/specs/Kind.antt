-- What kind of answer each call has, and how many bytes of a buffer the C header names for it.
use Rattle.std.specs.Prelude.{ℕ, ◌≤◌, Bool, true, false}
use Rattle.rules.specs.Call.{Call}

pub data Kind : Type 0 where
  nothing status flag height ids attempt fee_intent final look summary drained : Kind
  -- with the room in the lent buffer, for which the rules themselves ask
  input_coins absent_outputs archive : ℕ → Kind

abbrev pub kind_of : Call → Kind
kind_of (Call.Queue d) = nothing
kind_of (Call.QueueRebroadcastEpoch is trigger) = nothing
kind_of Call.QueueFeeReadiness = nothing
kind_of (Call.QueueRetainedDelivery i trigger g) = nothing
kind_of Call.Drain = drained
kind_of (Call.FinalizeAttempt t source j) = final
kind_of (Call.FeeIntentForAttempt t) = fee_intent
kind_of (Call.AcknowledgeAttempt t) = status
kind_of (Call.StopAttempt t) = status
kind_of (Call.AbandonAttempt t) = status
kind_of (Call.RelinquishCompletedAttempt t) = status
kind_of (Call.RetainSubmitted is) = ids
kind_of (Call.EmitRetirement i) = nothing
kind_of Call.DrainRetirements = ids
kind_of (Call.ReconciliationInputCoins outputs room) = input_coins room
kind_of Call.ActiveIds = ids
kind_of (Call.BeginReplay h) = flag
kind_of (Call.FinishReplayIfAdvanced h) = nothing
kind_of Call.ReplayRollbackHeight = height
kind_of (Call.ReconcileChainTerminality observed spent reorg back) = nothing
kind_of (Call.CausallyRolledBackIds absent inputs) = ids
kind_of (Call.AbsentOutputsForIds is absent room) = absent_outputs room
kind_of (Call.CollectRollbackReplayIds is) = nothing
kind_of Call.ClearLocalArtifacts = nothing
kind_of Call.RestoreRuntime = nothing
kind_of (Call.Attempt t) = attempt
kind_of (Call.Look i) = look
kind_of Call.Summary = summary
kind_of (Call.WriteArchive room) = archive room

-- the header's size of an answer
abbrev pub answer_bytes : Kind → ℕ
answer_bytes nothing = 0
answer_bytes status = 1
answer_bytes flag = 1
answer_bytes height = 9
answer_bytes ids = 513
answer_bytes attempt = 75
answer_bytes fee_intent = 42
answer_bytes final = 1117
answer_bytes look = 39
answer_bytes summary = 57
answer_bytes drained = 19330
answer_bytes (input_coins room) = 4738
answer_bytes (absent_outputs room) = 18946
answer_bytes (archive room) = 57694

-- the room that a call asks for is at least the header's
abbrev pub Roomy : Kind → Type 0
Roomy nothing = Unit {0}
Roomy status = Unit {0}
Roomy flag = Unit {0}
Roomy height = Unit {0}
Roomy ids = Unit {0}
Roomy attempt = Unit {0}
Roomy fee_intent = Unit {0}
Roomy final = Unit {0}
Roomy look = Unit {0}
Roomy summary = Unit {0}
Roomy drained = Unit {0}
Roomy (input_coins room) = 4738 ≤ room
Roomy (absent_outputs room) = 18946 ≤ room
Roomy (archive room) = 57694 ≤ room

abbrev pub is_drain : Kind → Bool
is_drain nothing = false
is_drain status = false
is_drain flag = false
is_drain height = false
is_drain ids = false
is_drain attempt = false
is_drain fee_intent = false
is_drain final = false
is_drain look = false
is_drain summary = false
is_drain drained = true
is_drain (input_coins room) = false
is_drain (absent_outputs room) = false
is_drain (archive room) = false

-- the rules themselves may refuse 12
abbrev pub asks_room : Kind → Bool
asks_room nothing = false
asks_room status = false
asks_room flag = false
asks_room height = false
asks_room ids = false
asks_room attempt = false
asks_room fee_intent = false
asks_room final = false
asks_room look = false
asks_room summary = false
asks_room drained = false
asks_room (input_coins room) = true
asks_room (absent_outputs room) = true
asks_room (archive room) = true
