-- A book within the program's types, and rules whose steps keep it there.
use Rattle.std.specs.Prelude.{ℕ, suc, Bool, cond}
use Rattle.book.specs.Model.{Book}
use Rattle.book.specs.declared.refusal.Refusal.{Refusal}
use Rattle.book.specs.Typed.{Every, U64, Bytes, TypedHeight, TypedOptionalHeight, TypedBundle, TypedIntent, TypedSubmitted, TypedDelivery}
use Rattle.rules.specs.Call.{Call}
use Rattle.rules.specs.Rule.{Revision, tighten, acknowledge, attach, terminality, reopen, Note, enqueue, unqueue, retire, unreplay, unqueue_all, unretire_all, begin_epoch, end_epoch, Step, note, revise, retain, emit, remove, set_aside, finalise, replay, Rule, ◌>>=◌, ◌<$>◌}
use Rattle.rules_laws.specs.Held
use Rattle.rules_laws.specs.Held.{HeldTo, held_bind, held_map, held_cond}

-- each number is within its type and each array has its length; the lists' own lengths are the sound book's affair
pub record Within (b : Book) : Type 0 where
  pub token : U64 b.next_token.0
  pub id : U64 b.next_id.0
  pub submitted : Every TypedSubmitted b.submitted
  pub pending : Every TypedDelivery b.pending
  pub retired : Every U64 b.retired
  pub rollback : TypedOptionalHeight b.rollback
  pub replayed : Every U64 b.replayed

abbrev pub TypedNote : Note → Type 0
TypedNote (enqueue d) = TypedDelivery d
TypedNote (unqueue i) = Unit {0}
TypedNote (retire i) = U64 i
TypedNote (unreplay i) = Unit {0}
TypedNote unqueue_all = Unit {0}
TypedNote unretire_all = Unit {0}
TypedNote (begin_epoch h) = TypedHeight h
TypedNote end_epoch = Unit {0}

abbrev pub TypedRevision : Revision → Type 0
TypedRevision (tighten x) = TypedOptionalHeight x
TypedRevision (acknowledge f) = Bytes 32 f
TypedRevision (attach j) = TypedBundle j
TypedRevision (terminality c) = Unit {0}
TypedRevision reopen = Unit {0}

-- a step that keeps the book b within the types
abbrev pub TypedStep : Step → Book → Type 0
TypedStep (note n) b = TypedNote n
TypedStep (revise i r) b = TypedRevision r
TypedStep (retain p) b = TypedIntent p × U64 (suc b.next_id.0)
TypedStep (emit i g) b = U64 (suc b.next_token.0)
TypedStep (remove i) b = Unit {0}
TypedStep (set_aside i) b = Unit {0}
TypedStep (finalise i v) b = Bytes 32 v
TypedStep (replay i) b = U64 i

-- nothing is asked of a stop
abbrev pub AnyStop : Refusal → Book → Type 0
AnyStop n b = Unit {0}

-- rules that keep the book b within the types; P is asked where they end
abbrev pub TypedTo : {A : Type 0} → (A → Type 0) → Book → Rule A → Type 0
TypedTo = HeldTo Within TypedStep AnyStop

-- what a call is handed is within its types; ids that are only looked for may be any
abbrev pub TypedCall : Call → Type 0
TypedCall (Call.Queue d) = TypedDelivery d
TypedCall (Call.QueueRebroadcastEpoch is trigger) = Unit {0}
TypedCall Call.QueueFeeReadiness = Unit {0}
TypedCall (Call.QueueRetainedDelivery i trigger g) = Unit {0}
TypedCall Call.Drain = Unit {0}
TypedCall (Call.FinalizeAttempt t source j) = TypedBundle j
TypedCall (Call.FeeIntentForAttempt t) = Unit {0}
TypedCall (Call.AcknowledgeAttempt t) = Unit {0}
TypedCall (Call.StopAttempt t) = Unit {0}
TypedCall (Call.AbandonAttempt t) = Unit {0}
TypedCall (Call.RelinquishCompletedAttempt t) = Unit {0}
TypedCall (Call.RetainSubmitted is) = Unit {0}
TypedCall (Call.EmitRetirement i) = U64 i
TypedCall Call.DrainRetirements = Unit {0}
TypedCall (Call.ReconciliationInputCoins outputs room) = Unit {0}
TypedCall Call.ActiveIds = Unit {0}
TypedCall (Call.BeginReplay h) = TypedHeight h
TypedCall (Call.FinishReplayIfAdvanced h) = Unit {0}
TypedCall Call.ReplayRollbackHeight = Unit {0}
TypedCall (Call.ReconcileChainTerminality observed spent reorg back) = Unit {0}
TypedCall (Call.CausallyRolledBackIds absent inputs) = Unit {0}
TypedCall (Call.AbsentOutputsForIds is absent room) = Unit {0}
TypedCall (Call.CollectRollbackReplayIds is) = Unit {0}
TypedCall Call.ClearLocalArtifacts = Unit {0}
TypedCall Call.RestoreRuntime = Unit {0}
TypedCall (Call.Attempt t) = Unit {0}
TypedCall (Call.Look i) = Unit {0}
TypedCall Call.Summary = Unit {0}
TypedCall (Call.WriteArchive room) = Unit {0}

-- ---- rules one after the other
abbrev pub Then : {A B : Type 0} → (B → Type 0) → (A → Rule B) → A → Type 0
Then = Held.Then Within TypedStep AnyStop

pub typed_bind : {A B : Type 0} (P : B → Type 0) (m : Rule A) (f : A → Rule B) (b : Book) → Within b → TypedTo (Then P f) b m → TypedTo P b (m >>= f)
typed_bind = held_bind Within TypedStep AnyStop

pub typed_map : {A B : Type 0} (P : B → Type 0) (f : A → B) (r : Rule A) (b : Book) → TypedTo (λ a. P (f a)) b r → TypedTo P b (f <$> r)
typed_map = held_map Within TypedStep AnyStop

pub typed_cond : {A : Type 0} (P : A → Type 0) (b : Book) (t : Bool) (x y : Rule A) → TypedTo P b x → TypedTo P b y → TypedTo P b (cond t x y)
typed_cond P b t x y h k = held_cond Within TypedStep AnyStop P b t x y (λ e. h) (λ e. k)
