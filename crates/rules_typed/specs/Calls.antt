-- Every call's rules keep a book within the types.
use Rattle.std.specs.Prelude.{ℕ, suc, ◌<◌, Bool, cond, not, ◌&&◌, List, [], ◌∷◌, map, ◌≡◌, refl, leb, ltb, length}
use Rattle.std.proofs.Math.Bool.{true, false}
use Rattle.std.specs.Prelude.{Option, None, Some}
use Rattle.std.proofs.Common.{arith}
use Rattle.std.proofs.Math.Dec.{eqb}
use Rattle.std.proofs.lemmas.Bool.{eqb-false}
use Rattle.base_lists.specs.Bytes.{eqs}
use Rattle.base_lists.specs.Lists.{elemb, rising}
use Rattle.std.specs.List.{filter, flat_map}
use Rattle.base_coin_string.specs.CoinIds.{id_listb, ids_in}
use Rattle.base_coin_string.specs.CoinList.{coins_in, coin_listb}
use Rattle.book.specs.declared.Height.{Height}
use Rattle.book.specs.declared.SpendBundle.{SpendBundle}
use Rattle.book.specs.declared.SubmittedTx.{SubmittedTx}
use Rattle.book.specs.declared.PendingDelivery.{PendingDelivery}
use Rattle.book.specs.declared.SubmissionId.{SubmissionId}
use Rattle.book.specs.declared.SubmissionDeliveryGoal.{SubmissionDeliveryGoal}
use Rattle.book.specs.declared.SubmissionDeliveryGoal.TheVariants.{EnsureBroadcast}
use Rattle.book.specs.declared.DeliveryTrigger.{DeliveryTrigger}
use Rattle.book.specs.declared.DeliveryTrigger.TheVariants.{Rollback, ProviderReadiness}
use Rattle.book.specs.declared.SubmissionChainTerminality.{SubmissionChainTerminality}
use Rattle.book.specs.declared.SubmissionChainTerminality.TheVariants.{Landed}
use Rattle.book.specs.Model.{Book}
use Rattle.book.specs.Sound.{readable_bundle, sound_delivery, id_of}
use Rattle.book.specs.Typed.{Every, U64, Bytes, TypedHeight, TypedBundle, TypedSubmitted, TypedDelivery}
use Rattle.book_answers.specs.declared.DrainFailureCause.{DrainFailureCause}
use Rattle.book_answers.specs.declared.DrainFailureCause.TheVariants.{IdsExhausted}
use Rattle.book_answers.specs.declared.FinalizedSubmission.{FinalizedSubmission}
use Rattle.book_answers.specs.declared.SubmissionFeeSource.{SubmissionFeeSource}
use Rattle.rules.specs.Call.{Call, failures, finalized, fee_intent_is, status_is, ids_are, flag, height_is, attempt_is, look_is, summary_is, written}
use Rattle.rules.specs.Calls.{rules, nothing}
use Rattle.rules.specs.CoinLists.{encode_coins}
use Rattle.rules.specs.Doors.{ids_ok}
use Rattle.rules.specs.Keyed.{pick}
use Rattle.rules.specs.Parts.{current_fingerprint, fee_unresolved, active_entry, intent_of, validate}
use Rattle.rules.specs.Rule.{done, emit, retain, reopen, revise, replay, Rule, undo, stop, look, act, turn, ◌>>=◌, ◌>>◌, step, ◌<$>◌}
use Rattle.rules.specs.Steps.Slots.{resolved}
use Rattle.rules.specs.Calls.AbandonAttempt.{abandon_live, abandon_attempt}
use Rattle.rules.specs.Calls.AbsentOutputsForIds.{absent_outputs, absent_outputs_for_ids}
use Rattle.rules.specs.Calls.AcknowledgeAttempt.{acknowledge_live, acknowledge_attempt}
use Rattle.rules.specs.Calls.Candidate.{deliver, met, known_by, known, unknown, named, unnamed, planned_by, candidate}
use Rattle.rules.specs.Calls.ClearLocalArtifacts.{clear_local_artifacts}
use Rattle.rules.specs.Calls.CollectRollbackReplayIds.{mark_each, offer_again, collect_rollback_replay_ids}
use Rattle.rules.specs.Calls.Common.{Found, live, aside, gone, never_issued, has_token, live_at, is_aside, found_by, find, by_live, with_live, withdraw, withdraw_each, writing}
use Rattle.rules.specs.Calls.Drain.{is_one_of, one_candidate, candidates, drain}
use Rattle.rules.specs.Calls.FeeIntentForAttempt.{fee_intent_for_attempt}
use Rattle.rules.specs.Calls.FinalizeAttempt.{is_joined, is_not_requested, finalize_as, finalize_with, finalize_live, sound_source, finalize_attempt}
use Rattle.rules.specs.Calls.Finalized.{unused_fee, current_final, attached_final}
use Rattle.rules.specs.Calls.Offer.{is_queued, deliverable, redelivery, offer_to, offer, goal_for}
use Rattle.rules.specs.Calls.Plan.{Memory, blank, with_emitted, with_removed, with_failure, last64, miss_of, wanted}
use Rattle.rules.specs.Calls.Queue.{queue}
use Rattle.rules.specs.Calls.QueueFeeReadiness.{offer_each, queue_fee_readiness}
use Rattle.rules.specs.Calls.QueueRebroadcastEpoch.{rebroadcast_of, rebroadcast, queue_rebroadcast_epoch}
use Rattle.rules.specs.Calls.QueueRetainedDelivery.{queue_retained_delivery}
use Rattle.rules.specs.Calls.ReconcileChainTerminality.{output_observed, input_spent, spent_as, halt, judge, judge_each, reconcile_chain_terminality}
use Rattle.rules.specs.Calls.ReconciliationInputCoins.{input_coins_to_reconcile, reconciliation_input_coins}
use Rattle.rules.specs.Calls.RelinquishCompletedAttempt.{relinquish_by, relinquish_completed_attempt}
use Rattle.rules.specs.Calls.Replay.{is_at, is_before, begin_replay, finish_replay_if_advanced, replay_rollback_height}
use Rattle.rules.specs.Calls.RestoreRuntime.{set_aside_each, restore_runtime}
use Rattle.rules.specs.Calls.RetainSubmitted.{to_remove, retain_submitted}
use Rattle.rules.specs.Calls.StopAttempt.{stop_live, stop_attempt}
use Rattle.rules.specs.Calls.EmitRetirement.{emit_retirement}
use Rattle.rules.specs.Calls.DrainRetirements.{drain_retirements}
use Rattle.rules.specs.Calls.ActiveIds.{active_ids}
use Rattle.rules.specs.Calls.CausallyRolledBackIds.{causally_rolled_back_ids}
use Rattle.rules.specs.Calls.Attempt.{attempt}
use Rattle.rules.specs.Calls.Look.{look_at}
use Rattle.rules.specs.Calls.Summary.{summary}
use Rattle.rules.specs.Calls.WriteArchive.{write_archive}
use Rattle.rules_typed.specs.Every.{every_filter, every_image, every_rising}
use Rattle.rules_typed.specs.Parts.{variant_typed, current_typed, resolved_typed}
use Rattle.rules_typed.specs.Typing.{Within, TypedTo, Then, TypedCall, typed_bind, typed_map, typed_cond}
use Rattle.book.specs.declared.refusal.Refusal.TheVariants as refusals

-- no demand where the rules end
abbrev Ends : {A : Type 0} → A → Type 0
Ends v = Unit {0}

abbrev pub Kept : {A : Type 0} → Rule A → Type 0
Kept r = (b : Book) → Within b → TypedTo Ends b r

-- the same rules with their answer made into another
kept_map : {A B : Type 0} (f : A → B) (r : Rule A) → Kept r → Kept (f <$> r)
kept_map f r h b w = typed_map Ends f r b (h b w)

-- a number that is not the last one has a next one
next_fits : (n : ℕ) → U64 n → eqb n last64 ≡ false → U64 (suc n)
next_fits n h e = let k = eqb-false n last64 e in omega arith

-- ---- what is found in the book
pick_typed : (b : Book) (i : ℕ) → Within b → Every TypedSubmitted (pick id_of i b.submitted)
unfolding pick
pick_typed b i w = every_filter TypedSubmitted (λ t. eqb (id_of t) i) b.submitted w.submitted

ids_typed : (ts : List SubmittedTx) → Every TypedSubmitted ts → Every U64 (map id_of ts)
ids_typed ts h = every_image TypedSubmitted U64 id_of (λ t x. x.entry.id) ts h

-- ---- shared parts
typed_withdraw : (P : Unit {0} → Type 0) → P tt → (i : ℕ) → U64 i → (b : Book) → TypedTo P b (withdraw i)
unfolding withdraw
typed_withdraw P h i k b = (tt, λ c x. (k, λ d y. h))

typed_withdraws : {A : Type 0} (r : Rule A) → Kept r → (is : List ℕ) → Every U64 is → Kept (withdraw_each is >> r)
unfolding withdraw_each withdraw
typed_withdraws r h [] k b w = h b w
typed_withdraws r h (i ∷ is) k b w = (tt, λ c x. (k.0, λ d y. typed_withdraws r h is k.1 d y))

redelivery_typed : (trigger : DeliveryTrigger) (g : SubmissionDeliveryGoal) (t : SubmittedTx) → TypedSubmitted t → TypedDelivery (redelivery trigger g t.entry)
unfolding redelivery
redelivery_typed trigger g t w = record { id = w.entry.id; bundle = w.entry.intent.base; expiry = w.entry.state.status; fee_intent = w.entry.intent.fee_intent }

typed_offer_to : (P : Unit {0} → Type 0) → P tt → (w : DeliveryTrigger) (g : SubmissionDeliveryGoal) (q : Bool) (ts : List SubmittedTx) → Every TypedSubmitted ts → (b : Book) → TypedTo P b (offer_to w g q ts)
typed_offer_to P h w g q [] k b = h
typed_offer_to P h w g q (t ∷ ts) k b = typed_cond P b (not q && deliverable w g t) _ _ (redelivery_typed w g t k.0, λ c x. h) h

typed_offer : (P : Unit {0} → Type 0) → P tt → (i : ℕ) (w : DeliveryTrigger) (g : SubmissionDeliveryGoal) (b : Book) → Within b → TypedTo P b (offer i w g)
unfolding offer
typed_offer P h i w g b k = typed_offer_to P h w g (is_queued i b) (pick id_of i b.submitted) (pick_typed b i k) b

-- the rules behind an offer
typed_offered : (i : ℕ) (w : DeliveryTrigger) (g : SubmissionDeliveryGoal) (r : Unit {0} → Rule (Unit {0})) → Kept (r tt) → Kept (offer i w g >>= r)
typed_offered i w g r h b k = typed_bind Ends (offer i w g) r b k (typed_offer (Then Ends r) h i w g b k)

-- ---- a token that is live
TypedFound : Found → Type 0
TypedFound (live s) = TypedSubmitted s
TypedFound aside = Unit {0}
TypedFound gone = Unit {0}
TypedFound never_issued = Unit {0}

found_typed : (below set : Bool) (ts : List SubmittedTx) → Every TypedSubmitted ts → TypedFound (found_by below set ts)
unfolding TypedFound
found_typed below set (t ∷ ts) h = h.0
found_typed true true [] h = tt
found_typed true false [] h = tt
found_typed false set [] h = tt

find_typed : (t : ℕ) (b : Book) → Within b → TypedFound (find t b)
unfolding find live_at
find_typed t b w = found_typed (ltb t b.next_token.0) (is_aside t b) (live_at t b) (every_filter TypedSubmitted (λ s. has_token t s.slots.active_attempt) b.submitted w.submitted)

typed_by_live : {A : Type 0} (v : A) (k : SubmittedTx → Rule A) (b : Book) → ((s : SubmittedTx) → TypedSubmitted s → TypedTo Ends b (k s)) → (f : Found) → TypedFound f → TypedTo Ends b (by_live v k f)
unfolding TypedFound
typed_by_live v k b h (live s) w = h s w
typed_by_live v k b h aside w = tt
typed_by_live v k b h gone w = tt
typed_by_live v k b h never_issued w = tt

typed_live : {A : Type 0} (t : ℕ) (v : A) (k : SubmittedTx → Rule A) → ((s : SubmittedTx) → TypedSubmitted s → Kept (k s)) → Kept (with_live t v k)
unfolding with_live
typed_live t v k h b w = typed_by_live v k b (λ s x. h s x b w) (find t b) (find_typed t b w)

typed_writing : (room : ℕ) (s : List ℕ) → Kept (writing room s)
unfolding writing
typed_writing room s b w = typed_cond Ends b (leb (length s) room) (done s) (undo refusals.ShortBuffer) tt tt

-- ---- queue
typed_queue : (d : PendingDelivery) → TypedDelivery d → Kept (queue d)
unfolding queue
typed_queue d h b w = typed_cond Ends b (sound_delivery d) _ _ (h, λ c x. tt) tt

typed_retained_delivery : (i : ℕ) (w : DeliveryTrigger) (g : SubmissionDeliveryGoal) → Kept (queue_retained_delivery i w g)
unfolding queue_retained_delivery
typed_retained_delivery i w g = typed_offered i w g _ (λ c x. tt)

typed_rebroadcast : (w : DeliveryTrigger) (is : List ℕ) → Kept (rebroadcast w is)
unfolding rebroadcast
typed_rebroadcast w [] b k = tt
typed_rebroadcast w (i ∷ is) b k = one (pick id_of i b.submitted) (typed_rebroadcast w is)
  where
    one : (ts : List SubmittedTx) → Kept (rebroadcast w is) → TypedTo Ends b (rebroadcast_of w ts >>= λ _. turn (rebroadcast w is))
    one [] h = h b k
    one (t ∷ ts) h = typed_offered (id_of t) w (goal_for t.entry) (λ _. turn (rebroadcast w is)) h b k

typed_epoch : (is : List ℕ) (w : DeliveryTrigger) → Kept (queue_rebroadcast_epoch is w)
unfolding queue_rebroadcast_epoch
typed_epoch is w b k = typed_cond Ends b (ids_ok is) _ _ (typed_rebroadcast w is b k) tt

typed_offers : (w : DeliveryTrigger) (ts : List SubmittedTx) → Kept (offer_each w ts)
unfolding offer_each
typed_offers w [] b k = tt
typed_offers w (t ∷ ts) b k = typed_offered (id_of t) w (goal_for t.entry) (λ _. turn (offer_each w ts)) (typed_offers w ts) b k

typed_readiness : Kept queue_fee_readiness
unfolding queue_fee_readiness
typed_readiness b k = typed_offers ProviderReadiness (filter (λ t. active_entry t.entry && fee_unresolved t.entry) b.submitted) b k

-- ---- drain
module _ (P : Memory → Type 0) (h : (a : Memory) → P a) where
  typed_deliver : (i : ℕ) (g : SubmissionDeliveryGoal) (a : Memory) (b : Book) → Within b → TypedTo P b (deliver i g a)
  unfolding deliver
  typed_deliver i g a b w = typed_cond P b (elemb i a.emitted) _ _ (h a) (go (eqb b.next_token.0 last64) refl)
    where
      go : (t : Bool) → eqb b.next_token.0 last64 ≡ t → TypedTo P b (cond t (stop refusals.NoToken) (step (emit i g) >>= λ _. done (with_emitted i a)))
      go true e = tt
      go false e = (next_fits b.next_token.0 w.token e, λ c x. h (with_emitted i a))

  module _ (n : ℕ) (c : PendingDelivery) (k : TypedDelivery c) where
    typed_met : (t : SubmittedTx) (a : Memory) (b : Book) → TypedTo P b (met c t a)
    unfolding met
    typed_met t a b = (k.expiry, λ d x. typed_cond P d (wanted c.goal t.entry) _ _ (typed_deliver (id_of t) c.goal a d x) (h a))

    typed_known_by : (f : List ℕ) (t : SubmittedTx) → TypedSubmitted t → (a : Memory) (m : Option DrainFailureCause) (b : Book) → Within b → TypedTo P b (known_by n c f t a m)
    typed_known_by f t x a None b w = typed_met t a b
    typed_known_by f t x a (Some m) b w = typed_bind P (withdraw (id_of t)) (λ _. done (failed m)) b w (typed_withdraw (Then P (λ _. done (failed m))) (λ d y. h (failed m)) (id_of t) x.entry.id b)
      where
        failed : DrainFailureCause → Memory
        failed m = with_failure n m (id_of t) f (with_removed (id_of t) a)

    typed_known : (f : List ℕ) (t : SubmittedTx) → TypedSubmitted t → (a : Memory) (b : Book) → Within b → TypedTo P b (known n c f t a)
    unfolding known
    typed_known f t x a b w = typed_known_by f t x a (miss_of c.intent f t.entry) b w

    typed_unknown : (f : List ℕ) (a : Memory) (b : Book) → Within b → TypedTo P b (unknown n c f b a)
    unfolding unknown
    typed_unknown f a b w =
        typed_cond P b (elemb b.next_id.0 (map id_of b.submitted)) _ _ (h _)
        (typed_cond P b (not (readable_bundle c.intent.bundle)) _ _ (h _)
        (go (eqb b.next_id.0 last64) refl))
      where
        go : (t : Bool) → eqb b.next_id.0 last64 ≡ t → TypedTo P b (cond t (done (with_failure n IdsExhausted b.next_id.0 f a)) (act (retain c.intent) (deliver b.next_id.0 c.goal a)))
        go true e = h _
        go false e = ((k, next_fits b.next_id.0 w.id e), λ d x. typed_deliver b.next_id.0 c.goal a d x)

    typed_named : (f : List ℕ) (i : ℕ) (a : Memory) (ts : List SubmittedTx) → Every TypedSubmitted ts → (b : Book) → Within b → TypedTo P b (named n c f i a ts)
    typed_named f i a [] x b w = h _
    typed_named f i a (t ∷ ts) x b w = typed_known f t x.0 a b w

    typed_unnamed : (f : List ℕ) (a : Memory) (ts : List SubmittedTx) → Every TypedSubmitted ts → (b : Book) → Within b → TypedTo P b (unnamed n c f b a ts)
    typed_unnamed f a [] x b w = typed_unknown f a b w
    typed_unnamed f a (t ∷ ts) x b w = typed_known f t x.0 a b w

    typed_planned : (f : List ℕ) (a : Memory) (i : Option SubmissionId) (b : Book) → Within b → TypedTo P b (planned_by n c f b a i)
    typed_planned f a None b w = typed_unnamed f a (filter (λ t. eqs t.entry.intent.intent_fingerprint f) b.submitted) (every_filter TypedSubmitted (λ t. eqs t.entry.intent.intent_fingerprint f) b.submitted w.submitted) b w
    typed_planned f a (Some i) b w = typed_named f i.0 a (pick id_of i.0 b.submitted) (pick_typed b i.0 w) b w

    typed_one : (a : Memory) (b : Book) → Within b → TypedTo P b (one_candidate n c a)
    unfolding one_candidate candidate
    typed_one a b w = typed_cond P b (is_one_of c.intent.id a.removed) _ _ (h a) (typed_planned (intent_of c.intent) a c.intent.id b w)

typed_candidates : (n : ℕ) (cs : List PendingDelivery) → Every TypedDelivery cs → (a : Memory) → Kept (candidates n cs a)
unfolding candidates
typed_candidates n [] k a b w = tt
typed_candidates n (c ∷ cs) k a b w =
    typed_bind Ends (one_candidate n c a) (λ m. turn (candidates (suc n) cs m)) b w
    (typed_one (Then Ends (λ m. turn (candidates (suc n) cs m))) (λ m. typed_candidates (suc n) cs k.1 m) n c k.0 a b w)

pub typed_drain : Kept drain
unfolding drain
typed_drain b w = (tt, λ c x. typed_candidates 0 b.pending w.pending blank c x)

-- ---- attempts
typed_finalize_as : (i : ℕ) (r : FinalizedSubmission) → Bytes 32 r.variant_fingerprint → Kept (finalize_as i r)
unfolding finalize_as
typed_finalize_as i r h b w = (h, λ c x. tt)

typed_finalize_with : (source : SubmissionFeeSource) (j : SpendBundle) → TypedBundle j → (t : SubmittedTx) → Kept (finalize_with source j t)
unfolding finalize_with unused_fee current_final attached_final
typed_finalize_with source j h t b w =
    typed_cond Ends b (fee_unresolved t.entry) _ _
    (typed_cond Ends b (is_joined source) _ _ (h, λ c x. typed_finalize_as (id_of t) (attached_final j t.entry) (variant_typed j) c x) (typed_finalize_as (id_of t) (unused_fee goal t.entry) (current_typed t.entry) b w))
    (typed_cond Ends b (is_not_requested source) _ _ (typed_finalize_as (id_of t) (current_final goal t.entry) (current_typed t.entry) b w) tt)
  where
    goal : SubmissionDeliveryGoal
    goal = t.slots.active_attempt.attempt.goal

typed_finalize_live : (source : SubmissionFeeSource) (j : SpendBundle) → TypedBundle j → (t : SubmittedTx) → Kept (finalize_live source j t)
unfolding finalize_live
typed_finalize_live source j h t b w =
    typed_cond Ends b t.slots.active_attempt.attempt.finalized_variant_fingerprint.present _ _ tt
    (typed_cond Ends b (not (validate t.entry)) _ _ tt
    (typed_cond Ends b (eqs (current_fingerprint t.entry) t.slots.active_attempt.attempt.drained_variant_fingerprint) _ _ (typed_finalize_with source j h t b w) tt))

typed_finalize : (t : ℕ) (source : SubmissionFeeSource) (j : SpendBundle) → TypedBundle j → Kept (finalize_attempt t source j)
unfolding finalize_attempt
typed_finalize t source j h b w = typed_cond Ends b (sound_source source j) _ _ (typed_live t _ _ (λ s x. typed_finalize_live source j h s) b w) tt

typed_fee : (t : ℕ) → Kept (fee_intent_for_attempt t)
unfolding fee_intent_for_attempt
typed_fee t = typed_live t _ _ (λ s x b w. tt)

typed_acknowledge : (t : ℕ) → Kept (acknowledge_attempt t)
unfolding acknowledge_attempt acknowledge_live
typed_acknowledge t = typed_live t _ _ (λ s x b w.
    typed_cond Ends b (not s.slots.active_attempt.attempt.finalized_variant_fingerprint.present) _ _ tt
    (typed_cond Ends b (eqs (current_fingerprint s.entry) (resolved s.slots.active_attempt.attempt)) _ _ (resolved_typed s.slots.active_attempt.attempt x.slots.active, λ c y. (tt, λ d z. (tt, λ e u. tt))) tt))

typed_stop : (t : ℕ) → Kept (stop_attempt t)
unfolding stop_attempt stop_live
typed_stop t = typed_live t _ _ (λ s x b w. (tt, λ c y. tt))

typed_abandon : (t : ℕ) → Kept (abandon_attempt t)
unfolding abandon_attempt abandon_live withdraw
typed_abandon t = typed_live t _ _ (λ s x b w. (tt, λ c y. (x.entry.id, λ d z. tt)))

typed_relinquish : (t : ℕ) → Kept (relinquish_completed_attempt t)
unfolding relinquish_completed_attempt
typed_relinquish t b w = go (find t b)
  where
    go : (f : Found) → TypedTo Ends b (relinquish_by f)
    go (live s) = tt
    go aside = tt
    go gone = tt
    go never_issued = tt

-- ---- removal and retirements
typed_retain_submitted : (is : List ℕ) → Kept (retain_submitted is)
unfolding retain_submitted to_remove
typed_retain_submitted is b w = typed_cond Ends b (ids_ok is) _ _
    (typed_withdraws _ (λ c x. tt) (to_remove is b) (every_rising U64 (filter (λ i. elemb i is) (map id_of b.submitted)) (every_filter U64 (λ i. elemb i is) (map id_of b.submitted) (ids_typed b.submitted w.submitted))) b w) tt

typed_clear : Kept clear_local_artifacts
unfolding clear_local_artifacts
typed_clear b w =
    typed_withdraws _ (λ c x. (tt, λ d y. (tt, λ e z. tt))) (rising (map id_of b.submitted)) (every_rising U64 (map id_of b.submitted) (ids_typed b.submitted w.submitted)) b w

-- ---- chain and replay
typed_halt : (P : Unit {0} → Type 0) → P tt → (i : ℕ) → U64 i → (c : SubmissionChainTerminality) (b : Book) → TypedTo P b (halt i c)
unfolding halt
typed_halt P h i k c b = (tt, λ b1 w1. (tt, λ b2 w2. (tt, λ b3 w3. (tt, λ b4 w4. (k, λ b5 w5. h)))))

typed_judges : (observed spent : List (List ℕ)) (reorg : Bool) (ids : List ℕ) (ts : List SubmittedTx) → Every TypedSubmitted ts → Kept (judge_each observed spent reorg ids ts)
unfolding judge_each judge
typed_judges observed spent reorg ids [] k b w = tt
typed_judges observed spent reorg ids (t ∷ ts) k b w = typed_bind Ends (judge observed spent reorg ids t) (λ _. turn (judge_each observed spent reorg ids ts)) b w (one (typed_judges observed spent reorg ids ts k.1))
  where
    P : Unit {0} → Type 0
    P a = Kept (judge_each observed spent reorg ids ts)

    one : Kept (judge_each observed spent reorg ids ts) → TypedTo P b (judge observed spent reorg ids t)
    one h =
        typed_cond P b (output_observed observed t.entry.intent) _ _ (typed_halt P h (id_of t) k.0.entry.id Landed b)
        (typed_cond P b (input_spent spent t.entry.intent) _ _ (typed_halt P h (id_of t) k.0.entry.id (spent_as reorg t.entry.state.status.chain_terminality) b)
        (typed_cond P b (elemb (id_of t) ids) _ _ (tt, λ c x. h) h))

typed_reconcile : (observed spent : List ℕ) (reorg : Bool) (ids : List ℕ) → Kept (reconcile_chain_terminality observed spent reorg ids)
unfolding reconcile_chain_terminality
typed_reconcile observed spent reorg ids b w =
    typed_cond Ends b (coin_listb observed && id_listb spent && ids_ok ids) _ _ (typed_judges (coins_in observed) (ids_in spent) reorg ids b.submitted w.submitted b w) tt

typed_offer_again : (is : List ℕ) → Kept (offer_again is)
unfolding offer_again
typed_offer_again [] b w = tt
typed_offer_again (i ∷ is) b w = typed_offered i Rollback EnsureBroadcast (λ _. turn (offer_again is)) (typed_offer_again is) b w

typed_marks : {A : Type 0} (b0 : Book) (r : Rule A) → Kept r → (is : List ℕ) → Every U64 is → Kept (mark_each b0 is >> r)
unfolding mark_each
typed_marks b0 r h [] k b w = h b w
typed_marks b0 r h (i ∷ is) k b w = go (elemb i b0.replayed) (typed_marks b0 r h is k.1)
  where
    go : (t : Bool) → Kept (mark_each b0 is >> r) → TypedTo Ends b ((cond t (done tt) (step (replay i) >> step (revise i reopen)) >> mark_each b0 is) >> r)
    go true x = x b w
    go false x = (k.0, λ c y. (tt, λ d z. x d z))

typed_collect : (is : List ℕ) → Kept (collect_rollback_replay_ids is)
unfolding collect_rollback_replay_ids
typed_collect is b w = typed_cond Ends b (ids_ok is) _ _
    (typed_marks b _ (typed_offer_again (filter (λ i. elemb i is) (map id_of b.submitted))) (filter (λ i. elemb i is) (map id_of b.submitted))
    (every_filter U64 (λ i. elemb i is) (map id_of b.submitted) (ids_typed b.submitted w.submitted)) b w) tt

typed_set_asides : (is : List ℕ) → Kept (set_aside_each is)
unfolding set_aside_each
typed_set_asides [] b w = tt
typed_set_asides (i ∷ is) b w = (tt, λ c x. typed_set_asides is c x)

typed_begin : (h : Height) → TypedHeight h → Kept (begin_replay h)
unfolding begin_replay
typed_begin h k b w = typed_cond Ends b (is_at b.rollback h.0) _ _ tt (k, λ c x. tt)

typed_finish : (h : Height) → Kept (finish_replay_if_advanced h)
unfolding finish_replay_if_advanced
typed_finish h b w = typed_cond Ends b (is_before b.rollback h.0) _ _ (tt, λ c x. tt) tt

-- ---- every call
pub typed : (encode : Book → List ℕ) (c : Call) → TypedCall c → Kept (rules encode c)
unfolding rules
typed encode (Call.Queue d) h = kept_map nothing (queue d) (typed_queue d h)
typed encode (Call.QueueRebroadcastEpoch is w) h = kept_map nothing (queue_rebroadcast_epoch is w) (typed_epoch is w)
typed encode Call.QueueFeeReadiness h = kept_map nothing queue_fee_readiness typed_readiness
typed encode (Call.QueueRetainedDelivery i w g) h = kept_map nothing (queue_retained_delivery i w g) (typed_retained_delivery i w g)
typed encode Call.Drain h = kept_map failures drain typed_drain
typed encode (Call.FinalizeAttempt t source j) h = kept_map finalized (finalize_attempt t source j) (typed_finalize t source j h)
typed encode (Call.FeeIntentForAttempt t) h = kept_map fee_intent_is (fee_intent_for_attempt t) (typed_fee t)
typed encode (Call.AcknowledgeAttempt t) h = kept_map status_is (acknowledge_attempt t) (typed_acknowledge t)
typed encode (Call.StopAttempt t) h = kept_map status_is (stop_attempt t) (typed_stop t)
typed encode (Call.AbandonAttempt t) h = kept_map status_is (abandon_attempt t) (typed_abandon t)
typed encode (Call.RelinquishCompletedAttempt t) h = kept_map status_is (relinquish_completed_attempt t) (typed_relinquish t)
typed encode (Call.RetainSubmitted is) h = kept_map ids_are (retain_submitted is) (typed_retain_submitted is)
typed encode (Call.EmitRetirement i) h = kept_map nothing (emit_retirement i) (λ b w. (h, λ c x. tt))
typed encode Call.DrainRetirements h = kept_map ids_are drain_retirements (λ b w. (tt, λ c x. tt))
typed encode (Call.ReconciliationInputCoins outputs room) h =
    kept_map written (reconciliation_input_coins outputs room)
    (λ b w. typed_cond Ends b (coin_listb outputs) _ _ (typed_writing room (encode_coins (input_coins_to_reconcile (coins_in outputs) b)) b w) tt)
typed encode Call.ActiveIds h = kept_map ids_are active_ids (λ b w. tt)
typed encode (Call.BeginReplay k) h = kept_map flag (begin_replay k) (typed_begin k h)
typed encode (Call.FinishReplayIfAdvanced k) h = kept_map nothing (finish_replay_if_advanced k) (typed_finish k)
typed encode Call.ReplayRollbackHeight h = kept_map height_is replay_rollback_height (λ b w. tt)
typed encode (Call.ReconcileChainTerminality observed spent reorg ids) h = kept_map nothing (reconcile_chain_terminality observed spent reorg ids) (typed_reconcile observed spent reorg ids)
typed encode (Call.CausallyRolledBackIds absent inputs) h = kept_map ids_are (causally_rolled_back_ids absent inputs) (λ b w. typed_cond Ends b (coin_listb absent && id_listb inputs) _ _ tt tt)
typed encode (Call.AbsentOutputsForIds is absent room) h =
    kept_map written (absent_outputs_for_ids is absent room)
    (λ b w. typed_cond Ends b (ids_ok is && coin_listb absent) _ _
    (typed_writing room (encode_coins (flat_map (λ t. absent_outputs (coins_in absent) t.entry.intent) (filter (λ t. elemb (id_of t) is) b.submitted))) b w) tt)
typed encode (Call.CollectRollbackReplayIds is) h = kept_map nothing (collect_rollback_replay_ids is) (typed_collect is)
typed encode Call.ClearLocalArtifacts h = kept_map nothing clear_local_artifacts typed_clear
typed encode Call.RestoreRuntime h = kept_map nothing restore_runtime (λ b w. typed_set_asides (map id_of b.submitted) b w)
typed encode (Call.Attempt t) h = kept_map attempt_is (attempt t) (λ b w. tt)
typed encode (Call.Look i) h = kept_map look_is (look_at i) (λ b w. tt)
typed encode Call.Summary h = kept_map summary_is summary (λ b w. tt)
typed encode (Call.WriteArchive room) h = kept_map written (write_archive encode room) (λ b w. typed_writing room (encode b) b w)
