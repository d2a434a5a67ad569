-- Arguments within C's types stand for calls within the program's types.
use Rattle.std.specs.Prelude.{ℕ, ◌≡◌, refl, Bool, true, false, cond, ◌&&◌, List, eqb, leb, length}
use Rattle.std.proofs.Common.{zero-le}
use Rattle.std.specs.Prelude.{Option, None, Some}
use Rattle.codec_forms.specs.Wire.{Ans, got, bad, Parser}
use Rattle.base_coin_string.specs.CoinIds.{id_listb}
use Rattle.base_coin_string.specs.CoinList.{coin_listb}
use Rattle.book.specs.Typed.{Every, U8, TypedBundle, TypedDelivery}
use Rattle.book.specs.Zero.{zero_bundle}
use Rattle.archive_form.specs.Parse.{parse_bundle, parse_delivery, parse_trigger, parse_goal}
use Rattle.archive_laws.specs.Bundles.{bundle_lawful, zero_bundle_typed}
use Rattle.archive_laws.specs.Cells.{every_bytes}
use Rattle.archive_laws.specs.Entries.{delivery_lawful}
use Rattle.rules.specs.Doors.{ids_ok}
use Rattle.rules_typed.specs.Typing.{TypedCall}
use Rattle.c_boundary.specs.Arguments.{taken_whole, bytes_as, byte_as, flag_in}
use Rattle.c_boundary_laws.specs.Enough.{OnSome}
use Rattle.c_calls_attempts.specs.Source.{source_in, joined_in}
use Rattle.c_api.specs.Functions.{CCall}
use Rattle.c_laws.specs.Functions.{Asked, value, value_behind, call_of, OnCall, TypedC}

typed_on : {A : Type 0} (P : A → Type 0) (x : Option A) (g : A → Asked) → OnSome P x → ((v : A) → P v → OnCall TypedCall (g v)) → OnCall TypedCall (value x g)
typed_on P None g h k = tt
typed_on P (Some v) g h k = k v h

typed_behind : {A : Type 0} (ok : Bool) (x : Option A) (g : A → Asked) → ((v : A) → OnCall TypedCall (g v)) → OnCall TypedCall (value_behind ok x g)
typed_behind true None g k = tt
typed_behind false None g k = tt
typed_behind ok (Some v) g k = k v

any : {A : Type 0} (x : Option A) → OnSome (λ (v : A). Unit {0}) x
any None = tt
any (Some v) = tt

bytes_typed : {A : Type 0} (P : A → Type 0) (p : Parser A) (s : List ℕ) → ((a : A) (e : ℕ) → p s 0 ≡ got a e → P a) → OnSome P (bytes_as p s)
bytes_typed {A} P p s h = go (p s 0) refl
  where
    whole : (t : Bool) (a : A) → P a → OnSome P (cond t (Some a) None)
    whole true a k = k
    whole false a k = tt

    go : (x : Ans A) → p s 0 ≡ x → OnSome P (taken_whole (length s) x)
    go (got a e) q = whole (leb (length s) e) a (h a e q)
    go (bad e) q = tt

delivery_typed : (s : List ℕ) → Every U8 s → OnSome TypedDelivery (bytes_as parse_delivery s)
delivery_typed s u = bytes_typed TypedDelivery parse_delivery s (λ a e q. (delivery_lawful.exact s 0 e a (every_bytes s u) zero-le q).0.typed)

joined_typed : (n : ℕ) (s : List ℕ) → Every U8 s → OnSome TypedBundle (joined_in n s)
unfolding joined_in
joined_typed n s u = go (eqb n 1) (leb (length s) 0)
  where
    go : (x y : Bool) → OnSome TypedBundle (cond x (bytes_as (parse_bundle false) s) (cond y (Some zero_bundle) None))
    go true y = bytes_typed TypedBundle (parse_bundle false) s (λ a e q. ((bundle_lawful false).exact s 0 e a (every_bytes s u) zero-le q).0.typed)
    go false true = zero_bundle_typed
    go false false = tt

pub typed_call : (c : CCall) → TypedC c → OnCall TypedCall (call_of c)
typed_call (CCall.Queue s) t = typed_on TypedDelivery (bytes_as parse_delivery s) _ (delivery_typed s t) (λ v h. h)
typed_call (CCall.QueueRetainedDelivery i w g) t =
    typed_on (λ v. Unit {0}) (byte_as parse_trigger w) _ (any (byte_as parse_trigger w)) (λ v h. typed_on (λ v. Unit {0}) (byte_as parse_goal g) _ (any (byte_as parse_goal g)) (λ v h. tt))
typed_call (CCall.QueueRebroadcastEpoch is w) t = typed_behind (ids_ok is) (byte_as parse_trigger w) _ (λ v. tt)
typed_call CCall.QueueFeeReadiness t = tt
typed_call (CCall.Drain a) t = tt
typed_call (CCall.FeeIntentForAttempt k a) t = tt
typed_call (CCall.AcknowledgeAttempt k a) t = tt
typed_call (CCall.StopAttempt k a) t = tt
typed_call (CCall.AbandonAttempt k a) t = tt
typed_call (CCall.RelinquishCompletedAttempt k a) t = tt
typed_call (CCall.Attempt k a) t = tt
typed_call (CCall.FinalizeAttempt k n s a) t =
    typed_on (λ v. Unit {0}) (source_in n) _ (any (source_in n)) (λ v h. typed_on TypedBundle (joined_in n s) _ (joined_typed n s t) (λ v h. h))
typed_call (CCall.RetainSubmitted is a) t = tt
typed_call (CCall.ActiveIds a) t = tt
typed_call (CCall.DrainRetirements a) t = tt
typed_call (CCall.ReplayRollbackHeight a) t = tt
typed_call (CCall.Look i a) t = tt
typed_call (CCall.Summary a) t = tt
typed_call (CCall.EmitRetirement i) t = t
typed_call (CCall.FinishReplayIfAdvanced i) t = tt
typed_call CCall.ClearLocalArtifacts t = tt
typed_call CCall.RestoreRuntime t = tt
typed_call (CCall.ReconcileChainTerminality o s r b) t = typed_behind (coin_listb o && id_listb s && ids_ok b) (flag_in r) _ (λ v. tt)
typed_call (CCall.CausallyRolledBackIds x i a) t = tt
typed_call (CCall.ReconciliationInputCoins o a k) t = tt
typed_call (CCall.AbsentOutputsForIds is o a k) t = tt
typed_call (CCall.BeginReplay i a) t = t
typed_call (CCall.CollectRollbackReplayIds is) t = tt
typed_call (CCall.Write a k) t = tt
