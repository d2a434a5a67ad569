-- What the types say of every value: each number is within its type, and each array has its length.
use Rattle.std.specs.Prelude.{◌≡◌, List, [], ◌∷◌, ℕ, ◌<◌, ◌^◌, length}
use Rattle.book.specs.declared.Token.{Token}
use Rattle.book.specs.declared.SubmissionId.{SubmissionId}
use Rattle.book.specs.declared.Height.{Height}
use Rattle.std.specs.Prelude.{Option}
use Rattle.std.specs.Prelude.{None, Some}
use Rattle.book.specs.declared.Output.{Output}
use Rattle.book.specs.declared.CoinSpend.{CoinSpend}
use Rattle.book.specs.declared.SpendBundle.{SpendBundle}
use Rattle.book.specs.declared.SubmissionFeeIntent.{SubmissionFeeIntent}
use Rattle.book.specs.declared.OptionalHash.{OptionalHash}
use Rattle.book.specs.declared.DeliveryAttempt.{DeliveryAttempt}
use Rattle.book.specs.declared.OptionalAttempt.{OptionalAttempt}
use Rattle.book.specs.declared.AttemptSlots.{AttemptSlots}
use Rattle.book.specs.declared.SubmissionBroadcastVariant.{SubmissionBroadcastVariant}
use Rattle.book.specs.declared.RetainedIntent.{RetainedIntent}
use Rattle.book.specs.declared.SubmissionStatus.{SubmissionStatus}
use Rattle.book.specs.declared.SubmissionState.{SubmissionState}
use Rattle.book.specs.declared.SubmittedEntry.{SubmittedEntry}
use Rattle.book.specs.declared.SubmittedTx.{SubmittedTx}
use Rattle.book.specs.declared.PendingSubmissionIntent.{PendingSubmissionIntent}
use Rattle.book.specs.declared.PendingDelivery.{PendingDelivery}
use Rattle.book.specs.declared.Ids.{Ids}
use Rattle.book.specs.declared.ReplayEpoch.{ReplayEpoch}
use Rattle.book.specs.declared.BookData.{BookData}

-- every element has the property
abbrev pub Every : {A : Type 0} → (A → Type 0) → List A → Type 0
Every P [] = Unit {0}
Every P (x ∷ xs) = P x × Every P xs

abbrev pub U8 : ℕ → Type 0
U8 x = x < 256

abbrev pub U64 : ℕ → Type 0
U64 x = x < 2 ^ 64

-- n elements that all have the property
pub record Array {A : Type 0} (n : ℕ) (P : A → Type 0) (xs : List A) : Type 0 where
  pub long : length xs ≡ n
  pub each : Every P xs

-- `[u8; n]`
abbrev pub Bytes : ℕ → List ℕ → Type 0
Bytes n = Array n U8

abbrev pub TypedToken : Token → Type 0
TypedToken t = U64 t.0

abbrev pub TypedId : SubmissionId → Type 0
TypedId i = U64 i.0

abbrev pub TypedHeight : Height → Type 0
TypedHeight h = U64 h.0

abbrev pub TypedOptionalHeight : Option Height → Type 0
TypedOptionalHeight None = Unit {0}
TypedOptionalHeight (Some h) = TypedHeight h

abbrev pub TypedOptionalId : Option SubmissionId → Type 0
TypedOptionalId None = Unit {0}
TypedOptionalId (Some i) = TypedId i

pub record TypedOutput (o : Output) : Type 0 where
  pub hash : Bytes 32 o.puzzle_hash
  pub amount : U64 o.amount

pub record TypedSpend (s : CoinSpend) : Type 0 where
  pub coin_len : U8 s.coin_len
  pub coin : Bytes 73 s.coin
  pub digest : Bytes 32 s.digest
  pub output_count : U8 s.output_count
  pub outputs : Array 4 TypedOutput s.outputs

pub record TypedBundle (b : SpendBundle) : Type 0 where
  pub count : U8 b.count
  pub spends : Array 4 TypedSpend b.spends

pub record TypedFeeIntent (f : SubmissionFeeIntent) : Type 0 where
  pub target : Bytes 32 f.target
  pub amount : U64 f.amount

abbrev pub TypedHash : OptionalHash → Type 0
TypedHash h = Bytes 32 h.hash

pub record TypedAttempt (a : DeliveryAttempt) : Type 0 where
  pub token : TypedToken a.token
  pub drained : Bytes 32 a.drained_variant_fingerprint
  pub finalized : TypedHash a.finalized_variant_fingerprint

abbrev pub TypedOptionalAttempt : OptionalAttempt → Type 0
TypedOptionalAttempt a = TypedAttempt a.attempt

pub record TypedSlots (s : AttemptSlots) : Type 0 where
  pub active : TypedOptionalAttempt s.active_attempt
  pub completed : TypedOptionalAttempt s.completed_attempt

pub record TypedVariant (v : SubmissionBroadcastVariant) : Type 0 where
  pub bundle : TypedBundle v.bundle
  pub applied_fee : U64 v.applied_fee

abbrev pub TypedStatus : SubmissionStatus → Type 0
TypedStatus s = TypedOptionalHeight s.expiry

pub record TypedRetainedIntent (p : RetainedIntent) : Type 0 where
  pub fingerprint : Bytes 32 p.intent_fingerprint
  pub base : TypedBundle p.base_bundle
  pub fee_intent : TypedFeeIntent p.fee_intent

pub record TypedState (s : SubmissionState) : Type 0 where
  pub current : TypedVariant s.current_variant
  pub acknowledged : TypedHash s.wallet_acknowledged_variant
  pub status : TypedStatus s.status

pub record TypedEntry (e : SubmittedEntry) : Type 0 where
  pub id : TypedId e.id
  pub intent : TypedRetainedIntent e.intent
  pub state : TypedState e.state

pub record TypedSubmitted (t : SubmittedTx) : Type 0 where
  pub slots : TypedSlots t.slots
  pub entry : TypedEntry t.entry

pub record TypedIntent (p : PendingSubmissionIntent) : Type 0 where
  pub id : TypedOptionalId p.id
  pub bundle : TypedBundle p.bundle
  pub expiry : TypedOptionalHeight p.expiry
  pub fee_intent : TypedFeeIntent p.fee_intent

abbrev pub TypedDelivery : PendingDelivery → Type 0
TypedDelivery d = TypedIntent d.intent

pub record TypedIds (N : ℕ) (x : Ids N) : Type 0 where
  pub count : U64 x.count
  pub items : Array N U64 x.items

pub record TypedReplay (r : ReplayEpoch) : Type 0 where
  pub rollback : TypedOptionalHeight r.rollback_height
  pub replayed : TypedIds 16 r.replayed_submission_ids

pub record Typed (b : BookData) : Type 0 where
  pub next_token : TypedToken b.next_delivery_attempt_token
  pub next_id : TypedId b.next_submission_id
  pub submitted_count : U64 b.submitted_count
  pub submitted : Array 16 TypedSubmitted b.submitted
  pub pending_count : U64 b.pending_count
  pub pending : Array 16 TypedDelivery b.pending_deliveries
  pub retired : TypedIds 64 b.retired_submission_ids
  pub replay : TypedReplay b.replay_epoch
