-- Every call's steps are taken, so no guard ever turns anything away.
use Rattle.std.specs.Prelude.{ℕ, suc, Bool, true, false, cond, ◌&&◌, ◌≡◌, refl, eqb, leb, length}
use Rattle.std.proofs.Math.Bool.{not}
use Rattle.std.proofs.Common.{ap, sym, ◌∙◌}
use mathlib.Core.List.{List, [], ◌∷◌, map}
use Rattle.std.specs.Prelude.{Option, None, Some}
use borrow.Author.Tests.{eqb-true, not-false}
use Rattle.base_lists.specs.Bytes.{eqs}
use Rattle.base_lists.specs.Lists.{elemb, rising}
use Rattle.std.specs.List.{filter, flat_map, list_all}
use Rattle.base_coin_string.specs.CoinIds.{id_listb, ids_in}
use Rattle.base_coin_string.specs.CoinList.{coins_in, coin_listb}
use Rattle.book.specs.declared.Height.{Height}
use Rattle.book.specs.declared.SpendBundle.{SpendBundle}
use Rattle.book.specs.declared.SubmittedTx.{SubmittedTx}
use Rattle.book.specs.declared.PendingDelivery.{PendingDelivery}
use Rattle.book.specs.declared.SubmissionId.{SubmissionId}
use Rattle.book.specs.declared.SubmissionDeliveryGoal.{SubmissionDeliveryGoal}
use Rattle.book.specs.declared.SubmissionDeliveryGoal.TheVariants.{EnsureBroadcast}
use Rattle.book.specs.declared.DeliveryTrigger.{DeliveryTrigger}
use Rattle.book.specs.declared.DeliveryTrigger.TheVariants.{Rollback, ProviderReadiness}
use Rattle.book.specs.declared.SubmissionChainTerminality.{SubmissionChainTerminality}
use Rattle.book.specs.declared.SubmissionChainTerminality.TheVariants.{Landed}
use Rattle.book.specs.Model.{Book}
use Rattle.book.specs.Sound.{readable_bundle, sound_delivery, id_of, sound_bundle, sound_entry, sound_submitted, sound_intent}
use Rattle.book_answers.specs.declared.DrainFailureCause.{DrainFailureCause}
use Rattle.book_answers.specs.declared.SubmissionFeeSource.{SubmissionFeeSource}
use Rattle.rules.specs.Call.{Call, failures, finalized, fee_intent_is, status_is, ids_are, flag, height_is, attempt_is, look_is, summary_is, written}
use Rattle.rules.specs.Calls.{rules, nothing}
use Rattle.rules.specs.CoinLists.{encode_coins}
use Rattle.rules.specs.Doors.{ids_ok}
use Rattle.rules.specs.Keyed.{pick}
use Rattle.rules.specs.Parts.{current_fingerprint, fee_unresolved, active_entry, intent_of, validate}
use Rattle.rules.specs.Rule.{done, reopen, revise, replay, Rule, undo, turn, ◌>>=◌, ◌>>◌, step, ◌<$>◌}
use Rattle.rules.specs.Steps.Slots.{resolved}
use Rattle.rules.specs.Calls.AbandonAttempt.{abandon_live, abandon_attempt}
use Rattle.rules.specs.Calls.AbsentOutputsForIds.{absent_outputs, absent_outputs_for_ids}
use Rattle.rules.specs.Calls.AcknowledgeAttempt.{acknowledge_live, acknowledge_attempt}
use Rattle.rules.specs.Calls.Candidate.{deliver, met, known_by, known, unknown, named, unnamed, planned_by, candidate}
use Rattle.rules.specs.Calls.ClearLocalArtifacts.{clear_local_artifacts}
use Rattle.rules.specs.Calls.CollectRollbackReplayIds.{mark_each, offer_again, collect_rollback_replay_ids}
use Rattle.rules.specs.Calls.Common.{Found, live, aside, gone, never_issued, find, by_live, with_live, withdraw, withdraw_each, writing}
use Rattle.rules.specs.Calls.Drain.{is_one_of, one_candidate, candidates, drain}
use Rattle.rules.specs.Calls.FeeIntentForAttempt.{fee_intent_for_attempt}
use Rattle.rules.specs.Calls.FinalizeAttempt.{is_joined, is_not_requested, finalize_as, finalize_with, finalize_live, sound_source, finalize_attempt}
use Rattle.rules.specs.Calls.Offer.{is_queued, deliverable, redelivery, offer_to, offer, goal_for}
use Rattle.rules.specs.Calls.Plan.{Memory, blank, with_emitted, last64, miss_of, wanted}
use Rattle.rules.specs.Calls.Queue.{queue}
use Rattle.rules.specs.Calls.QueueFeeReadiness.{offer_each, queue_fee_readiness}
use Rattle.rules.specs.Calls.QueueRebroadcastEpoch.{rebroadcast_of, rebroadcast, queue_rebroadcast_epoch}
use Rattle.rules.specs.Calls.QueueRetainedDelivery.{queue_retained_delivery}
use Rattle.rules.specs.Calls.ReconcileChainTerminality.{output_observed, input_spent, spent_as, halt, judge, judge_each, reconcile_chain_terminality}
use Rattle.rules.specs.Calls.ReconciliationInputCoins.{input_coins_to_reconcile, reconciliation_input_coins}
use Rattle.rules.specs.Calls.RelinquishCompletedAttempt.{relinquish_by, relinquish_completed_attempt}
use Rattle.rules.specs.Calls.Replay.{is_at, is_before, begin_replay, finish_replay_if_advanced, replay_rollback_height}
use Rattle.rules.specs.Calls.RestoreRuntime.{set_aside_each, restore_runtime}
use Rattle.rules.specs.Calls.RetainSubmitted.{to_remove, retain_submitted}
use Rattle.rules.specs.Calls.StopAttempt.{stop_live, stop_attempt}
use Rattle.base_lists.specs.Laws.{and_split, and_both}
use Rattle.base_lists.specs.Sub.{filter_sub, all_sub}
use Rattle.book.specs.declared.SubmittedEntry.{SubmittedEntry}
use Rattle.book.specs.SoundLaws.{sound_entry_lem, sound_submitted_lem, SoundLists}
use Rattle.book.specs.Zero.{is_zero_bundle}
use Rattle.rules.specs.Steps.{retainable}
use Rattle.rules.specs.Calls.EmitRetirement.{emit_retirement}
use Rattle.rules.specs.Calls.DrainRetirements.{drain_retirements}
use Rattle.rules.specs.Calls.ActiveIds.{active_ids}
use Rattle.rules.specs.Calls.CausallyRolledBackIds.{causally_rolled_back_ids}
use Rattle.rules.specs.Calls.Attempt.{attempt}
use Rattle.rules.specs.Calls.Look.{look_at}
use Rattle.rules.specs.Calls.Summary.{summary}
use Rattle.rules.specs.Calls.WriteArchive.{write_archive}
use Rattle.rules_laws.specs.Held.{Then, held_bind, held_map, held_cond}
use Rattle.rules_laws.specs.Guards.Bare.{Taken, AtLast, TakenTo}
use Rattle.book.specs.declared.refusal.Refusal.TheVariants as refusals

-- no demand where the rules end
abbrev pub Ends : {A : Type 0} → A → Type 0
Ends v = Unit {0}

abbrev pub AllTaken : {A : Type 0} → Rule A → Type 0
AllTaken r = (b : Book) → SoundLists b → TakenTo Ends b r

taken_cond : {A : Type 0} (P : A → Type 0) (b : Book) (t : Bool) (x y : Rule A) → (t ≡ true → TakenTo P b x) → (t ≡ false → TakenTo P b y) → TakenTo P b (cond t x y)
taken_cond = held_cond SoundLists Taken AtLast

abbrev After : {A B : Type 0} → (B → Type 0) → (A → Rule B) → A → Type 0
After = Then SoundLists Taken AtLast

taken_bind : {A B : Type 0} (P : B → Type 0) (m : Rule A) (f : A → Rule B) (b : Book) → SoundLists b → TakenTo (After P f) b m → TakenTo P b (m >>= f)
taken_bind = held_bind SoundLists Taken AtLast

-- the same rules with their answer made into another
taken_map : {A B : Type 0} (f : A → B) (r : Rule A) → AllTaken r → AllTaken (f <$> r)
taken_map f r h b s = held_map SoundLists Taken AtLast Ends f r b (h b s)

-- ---- shared parts
taken_withdraws : {A : Type 0} (r : Rule A) → AllTaken r → (is : List ℕ) → AllTaken (withdraw_each is >> r)
unfolding withdraw_each withdraw
taken_withdraws r h [] b s = h b s
taken_withdraws r h (i ∷ is) b s = (refl, λ c x. (refl, λ d y. taken_withdraws r h is d y))

-- a retained submission's own intent is sound
pub redelivery_sound : (trigger : DeliveryTrigger) (g : SubmissionDeliveryGoal) (e : SubmittedEntry) → sound_entry e ≡ true → sound_delivery (redelivery trigger g e) ≡ true
unfolding sound_delivery sound_intent redelivery
redelivery_sound trigger g e h = let s = (sound_entry_lem e h).intent in and_both s.base s.fee_intent

taken_offer_to : (P : Unit {0} → Type 0) → P tt → (w : DeliveryTrigger) (g : SubmissionDeliveryGoal) (q : Bool) (ts : List SubmittedTx) → list_all sound_submitted ts ≡ true → (b : Book) → TakenTo P b (offer_to w g q ts)
taken_offer_to P h w g q [] k b = h
taken_offer_to P h w g q (t ∷ ts) k b =
    let u = and_split (sound_submitted t) (list_all sound_submitted ts) k in
    taken_cond P b (not q && deliverable w g t) _ _ (λ e. (redelivery_sound w g t.entry (sound_submitted_lem t u.0).entry, λ c x. h)) (λ e. h)

-- the rules behind an offer
taken_offered : (i : ℕ) (w : DeliveryTrigger) (g : SubmissionDeliveryGoal) (r : Unit {0} → Rule (Unit {0})) → AllTaken (r tt) → AllTaken (offer i w g >>= r)
unfolding offer pick
taken_offered i w g r h b s =
    taken_bind Ends (offer_to w g (is_queued i b) (pick id_of i b.submitted)) r b s
    (taken_offer_to (After Ends r) h w g (is_queued i b) (pick id_of i b.submitted) (all_sub sound_submitted (filter_sub (λ t. eqb (id_of t) i) b.submitted) s.submitted) b)

taken_by_live : {A : Type 0} (v : A) (k : SubmittedTx → Rule A) (b : Book) → ((t : SubmittedTx) → TakenTo Ends b (k t)) → (f : Found) → TakenTo Ends b (by_live v k f)
taken_by_live v k b h (live t) = h t
taken_by_live v k b h aside = tt
taken_by_live v k b h gone = tt
taken_by_live v k b h never_issued = tt

taken_live : {A : Type 0} (t : ℕ) (v : A) (k : SubmittedTx → Rule A) → ((s : SubmittedTx) → AllTaken (k s)) → AllTaken (with_live t v k)
unfolding with_live
taken_live t v k h b s = taken_by_live v k b (λ u. h u b s) (find t b)

taken_writing : (room : ℕ) (s : List ℕ) → AllTaken (writing room s)
unfolding writing
taken_writing room s b k = taken_cond Ends b (leb (length s) room) (done s) (undo refusals.ShortBuffer) (λ e. tt) (λ e. tt)

-- ---- queue
taken_queue : (d : PendingDelivery) → AllTaken (queue d)
unfolding queue
taken_queue d b s = taken_cond Ends b (sound_delivery d) _ _ (λ e. (e, λ c x. tt)) (λ e. tt)

taken_retained_delivery : (i : ℕ) (w : DeliveryTrigger) (g : SubmissionDeliveryGoal) → AllTaken (queue_retained_delivery i w g)
unfolding queue_retained_delivery
taken_retained_delivery i w g = taken_offered i w g _ (λ c x. tt)

taken_rebroadcast : (w : DeliveryTrigger) (is : List ℕ) → AllTaken (rebroadcast w is)
unfolding rebroadcast
taken_rebroadcast w [] b s = tt
taken_rebroadcast w (i ∷ is) b s = one (pick id_of i b.submitted) (taken_rebroadcast w is)
  where
    one : (ts : List SubmittedTx) → AllTaken (rebroadcast w is) → TakenTo Ends b (rebroadcast_of w ts >>= λ _. turn (rebroadcast w is))
    one [] h = h b s
    one (t ∷ ts) h = taken_offered (id_of t) w (goal_for t.entry) (λ _. turn (rebroadcast w is)) h b s

taken_epoch : (is : List ℕ) (w : DeliveryTrigger) → AllTaken (queue_rebroadcast_epoch is w)
unfolding queue_rebroadcast_epoch
taken_epoch is w b s = taken_cond Ends b (ids_ok is) _ _ (λ e. taken_rebroadcast w is b s) (λ e. tt)

taken_offers : (w : DeliveryTrigger) (ts : List SubmittedTx) → AllTaken (offer_each w ts)
unfolding offer_each
taken_offers w [] b s = tt
taken_offers w (t ∷ ts) b s = taken_offered (id_of t) w (goal_for t.entry) (λ _. turn (offer_each w ts)) (taken_offers w ts) b s

taken_readiness : AllTaken queue_fee_readiness
unfolding queue_fee_readiness
taken_readiness b s = taken_offers ProviderReadiness (filter (λ t. active_entry t.entry && fee_unresolved t.entry) b.submitted) b s

-- ---- drain
module _ (P : Memory → Type 0) (h : (a : Memory) → P a) where
  taken_deliver : (i : ℕ) (g : SubmissionDeliveryGoal) (a : Memory) (b : Book) → TakenTo P b (deliver i g a)
  unfolding deliver
  taken_deliver i g a b = taken_cond P b (elemb i a.emitted) _ _ (λ e. h a)
      (λ e. taken_cond P b (eqb b.next_token.0 last64) _ _ (λ l. eqb-true b.next_token.0 last64 l) (λ l. (refl, λ c x. h (with_emitted i a))))

  module _ (n : ℕ) (c : PendingDelivery) (k : sound_delivery c ≡ true) where
    taken_known_by : (f : List ℕ) (t : SubmittedTx) (a : Memory) (m : Option DrainFailureCause) (b : Book) → TakenTo P b (known_by n c f t a m)
    unfolding met withdraw
    taken_known_by f t a None b = (refl, λ d x. taken_cond P d (wanted c.goal t.entry) _ _ (λ e. taken_deliver (id_of t) c.goal a d) (λ e. h a))
    taken_known_by f t a (Some m) b = (refl, λ d x. (refl, λ e y. h _))

    -- plan 3 retains what is sound and readable, under an id that is not retained
    taken_unknown : (f : List ℕ) (a : Memory) (b : Book) → TakenTo P b (unknown n c f b a)
    unfolding unknown retainable sound_delivery
    taken_unknown f a b =
        taken_cond P b (elemb b.next_id.0 (map id_of b.submitted)) _ _ (λ e. h _)
        (λ e. taken_cond P b (not (readable_bundle c.intent.bundle)) _ _ (λ r. h _)
        (λ r. taken_cond P b (eqb b.next_id.0 last64) _ _ (λ l. h _)
        (λ l. (and_both (and_both k (not-false (readable_bundle c.intent.bundle) r)) (ap not e), λ d x. taken_deliver b.next_id.0 c.goal a d))))

    taken_named : (f : List ℕ) (i : ℕ) (a : Memory) (ts : List SubmittedTx) (b : Book) → TakenTo P b (named n c f i a ts)
    unfolding known
    taken_named f i a [] b = h _
    taken_named f i a (t ∷ ts) b = taken_known_by f t a (miss_of c.intent f t.entry) b

    taken_unnamed : (f : List ℕ) (a : Memory) (ts : List SubmittedTx) (b : Book) → TakenTo P b (unnamed n c f b a ts)
    unfolding known
    taken_unnamed f a [] b = taken_unknown f a b
    taken_unnamed f a (t ∷ ts) b = taken_known_by f t a (miss_of c.intent f t.entry) b

    taken_planned : (f : List ℕ) (a : Memory) (i : Option SubmissionId) (b : Book) → TakenTo P b (planned_by n c f b a i)
    taken_planned f a None b = taken_unnamed f a (filter (λ t. eqs t.entry.intent.intent_fingerprint f) b.submitted) b
    taken_planned f a (Some i) b = taken_named f i.0 a (pick id_of i.0 b.submitted) b

    taken_one : (a : Memory) (b : Book) → TakenTo P b (one_candidate n c a)
    unfolding one_candidate candidate
    taken_one a b = taken_cond P b (is_one_of c.intent.id a.removed) _ _ (λ e. h a) (λ e. taken_planned (intent_of c.intent) a c.intent.id b)

taken_candidates : (n : ℕ) (cs : List PendingDelivery) → list_all sound_delivery cs ≡ true → (a : Memory) → AllTaken (candidates n cs a)
unfolding candidates
taken_candidates n [] k a b s = tt
taken_candidates n (c ∷ cs) k a b s =
    let u = and_split (sound_delivery c) (list_all sound_delivery cs) k in
    taken_bind Ends (one_candidate n c a) (λ m. turn (candidates (suc n) cs m)) b s
    (taken_one (After Ends (λ m. turn (candidates (suc n) cs m))) (λ m. taken_candidates (suc n) cs u.1 m) n c u.0 a b)

taken_drain : AllTaken drain
unfolding drain
taken_drain b s = (refl, λ c x. taken_candidates 0 b.pending s.pending blank c x)

-- ---- attempts
taken_finalize_with : (source : SubmissionFeeSource) (j : SpendBundle) → sound_source source j ≡ true → (t : SubmittedTx) → AllTaken (finalize_with source j t)
unfolding finalize_with finalize_as sound_source
taken_finalize_with source j h t b s =
    taken_cond Ends b (fee_unresolved t.entry) _ _
    (λ u. taken_cond Ends b (is_joined source) _ _
    (λ e. (ap (λ (x : Bool). cond x (sound_bundle j) (is_zero_bundle j)) (sym e) ∙ h, λ c x. (refl, λ d y. tt))) (λ e. (refl, λ c x. tt)))
    (λ u. taken_cond Ends b (is_not_requested source) _ _ (λ e. (refl, λ c x. tt)) (λ e. tt))

taken_finalize : (t : ℕ) (source : SubmissionFeeSource) (j : SpendBundle) → AllTaken (finalize_attempt t source j)
unfolding finalize_attempt finalize_live
taken_finalize t source j b s = taken_cond Ends b (sound_source source j) _ _
    (λ h. taken_live t _ _ (λ u c x.
    taken_cond Ends c u.slots.active_attempt.attempt.finalized_variant_fingerprint.present _ _ (λ e. tt)
    (λ e. taken_cond Ends c (not (validate u.entry)) _ _ (λ f. tt)
    (λ f. taken_cond Ends c (eqs (current_fingerprint u.entry) u.slots.active_attempt.attempt.drained_variant_fingerprint) _ _
    (λ g. taken_finalize_with source j h u c x) (λ g. tt)))) b s)
    (λ h. tt)

taken_fee : (t : ℕ) → AllTaken (fee_intent_for_attempt t)
unfolding fee_intent_for_attempt
taken_fee t = taken_live t _ _ (λ u b s. tt)

taken_acknowledge : (t : ℕ) → AllTaken (acknowledge_attempt t)
unfolding acknowledge_attempt acknowledge_live
taken_acknowledge t = taken_live t _ _ (λ u b s.
    taken_cond Ends b (not u.slots.active_attempt.attempt.finalized_variant_fingerprint.present) _ _ (λ e. tt)
    (λ e. taken_cond Ends b (eqs (current_fingerprint u.entry) (resolved u.slots.active_attempt.attempt)) _ _ (λ f. (refl, λ c x. (refl, λ d y. (refl, λ g z. tt)))) (λ f. tt)))

taken_stop : (t : ℕ) → AllTaken (stop_attempt t)
unfolding stop_attempt stop_live
taken_stop t = taken_live t _ _ (λ u b s. (refl, λ c x. tt))

taken_abandon : (t : ℕ) → AllTaken (abandon_attempt t)
unfolding abandon_attempt abandon_live withdraw
taken_abandon t = taken_live t _ _ (λ u b s. (refl, λ c x. (refl, λ d y. tt)))

taken_relinquish : (t : ℕ) → AllTaken (relinquish_completed_attempt t)
unfolding relinquish_completed_attempt
taken_relinquish t b s = go (find t b)
  where
    go : (f : Found) → TakenTo Ends b (relinquish_by f)
    go (live u) = tt
    go aside = tt
    go gone = tt
    go never_issued = tt

-- ---- removal
taken_retain_submitted : (is : List ℕ) → AllTaken (retain_submitted is)
unfolding retain_submitted
taken_retain_submitted is b s = taken_cond Ends b (ids_ok is) _ _ (λ e. taken_withdraws _ (λ c x. tt) (to_remove is b) b s) (λ e. tt)

taken_clear : AllTaken clear_local_artifacts
unfolding clear_local_artifacts
taken_clear b s = taken_withdraws _ (λ c x. (refl, λ d y. (refl, λ e z. tt))) (rising (map id_of b.submitted)) b s

-- ---- chain and replay
taken_halt : (P : Unit {0} → Type 0) → P tt → (i : ℕ) (c : SubmissionChainTerminality) (b : Book) → TakenTo P b (halt i c)
unfolding halt
taken_halt P h i c b = (refl, λ b1 s1. (refl, λ b2 s2. (refl, λ b3 s3. (refl, λ b4 s4. (refl, λ b5 s5. h)))))

taken_judges : (observed spent : List (List ℕ)) (reorg : Bool) (ids : List ℕ) (ts : List SubmittedTx) → AllTaken (judge_each observed spent reorg ids ts)
unfolding judge_each judge
taken_judges observed spent reorg ids [] b s = tt
taken_judges observed spent reorg ids (t ∷ ts) b s = taken_bind Ends (judge observed spent reorg ids t) (λ _. turn (judge_each observed spent reorg ids ts)) b s (one (taken_judges observed spent reorg ids ts))
  where
    P : Unit {0} → Type 0
    P a = AllTaken (judge_each observed spent reorg ids ts)

    one : AllTaken (judge_each observed spent reorg ids ts) → TakenTo P b (judge observed spent reorg ids t)
    one h =
        taken_cond P b (output_observed observed t.entry.intent) _ _ (λ e. taken_halt P h (id_of t) Landed b)
        (λ e. taken_cond P b (input_spent spent t.entry.intent) _ _ (λ f. taken_halt P h (id_of t) (spent_as reorg t.entry.state.status.chain_terminality) b)
        (λ f. taken_cond P b (elemb (id_of t) ids) _ _ (λ g. (refl, λ c x. h)) (λ g. h)))

taken_reconcile : (observed spent : List ℕ) (reorg : Bool) (ids : List ℕ) → AllTaken (reconcile_chain_terminality observed spent reorg ids)
unfolding reconcile_chain_terminality
taken_reconcile observed spent reorg ids b s =
    taken_cond Ends b (coin_listb observed && id_listb spent && ids_ok ids) _ _ (λ e. taken_judges (coins_in observed) (ids_in spent) reorg ids b.submitted b s) (λ e. tt)

taken_offer_again : (is : List ℕ) → AllTaken (offer_again is)
unfolding offer_again
taken_offer_again [] b s = tt
taken_offer_again (i ∷ is) b s = taken_offered i Rollback EnsureBroadcast (λ _. turn (offer_again is)) (taken_offer_again is) b s

taken_marks : {A : Type 0} (b0 : Book) (r : Rule A) → AllTaken r → (is : List ℕ) → AllTaken (mark_each b0 is >> r)
unfolding mark_each
taken_marks b0 r h [] b s = h b s
taken_marks b0 r h (i ∷ is) b s = go (elemb i b0.replayed) (taken_marks b0 r h is)
  where
    go : (t : Bool) → AllTaken (mark_each b0 is >> r) → TakenTo Ends b ((cond t (done tt) (step (replay i) >> step (revise i reopen)) >> mark_each b0 is) >> r)
    go true x = x b s
    go false x = (refl, λ c y. (refl, λ d z. x d z))

taken_collect : (is : List ℕ) → AllTaken (collect_rollback_replay_ids is)
unfolding collect_rollback_replay_ids
taken_collect is b s = taken_cond Ends b (ids_ok is) _ _
    (λ e. taken_marks b _ (taken_offer_again (filter (λ i. elemb i is) (map id_of b.submitted))) (filter (λ i. elemb i is) (map id_of b.submitted)) b s) (λ e. tt)

taken_set_asides : (is : List ℕ) → AllTaken (set_aside_each is)
unfolding set_aside_each
taken_set_asides [] b s = tt
taken_set_asides (i ∷ is) b s = (refl, λ c x. taken_set_asides is c x)

taken_begin : (h : Height) → AllTaken (begin_replay h)
unfolding begin_replay
taken_begin h b s = taken_cond Ends b (is_at b.rollback h.0) _ _ (λ e. tt) (λ e. (refl, λ c x. tt))

taken_finish : (h : Height) → AllTaken (finish_replay_if_advanced h)
unfolding finish_replay_if_advanced
taken_finish h b s = taken_cond Ends b (is_before b.rollback h.0) _ _ (λ e. (refl, λ c x. tt)) (λ e. tt)

-- ---- every call
pub all_taken : (encode : Book → List ℕ) (c : Call) → AllTaken (rules encode c)
unfolding rules
all_taken encode (Call.Queue d) = taken_map nothing (queue d) (taken_queue d)
all_taken encode (Call.QueueRebroadcastEpoch is w) = taken_map nothing (queue_rebroadcast_epoch is w) (taken_epoch is w)
all_taken encode Call.QueueFeeReadiness = taken_map nothing queue_fee_readiness taken_readiness
all_taken encode (Call.QueueRetainedDelivery i w g) = taken_map nothing (queue_retained_delivery i w g) (taken_retained_delivery i w g)
all_taken encode Call.Drain = taken_map failures drain taken_drain
all_taken encode (Call.FinalizeAttempt t source j) = taken_map finalized (finalize_attempt t source j) (taken_finalize t source j)
all_taken encode (Call.FeeIntentForAttempt t) = taken_map fee_intent_is (fee_intent_for_attempt t) (taken_fee t)
all_taken encode (Call.AcknowledgeAttempt t) = taken_map status_is (acknowledge_attempt t) (taken_acknowledge t)
all_taken encode (Call.StopAttempt t) = taken_map status_is (stop_attempt t) (taken_stop t)
all_taken encode (Call.AbandonAttempt t) = taken_map status_is (abandon_attempt t) (taken_abandon t)
all_taken encode (Call.RelinquishCompletedAttempt t) = taken_map status_is (relinquish_completed_attempt t) (taken_relinquish t)
all_taken encode (Call.RetainSubmitted is) = taken_map ids_are (retain_submitted is) (taken_retain_submitted is)
all_taken encode (Call.EmitRetirement i) = taken_map nothing (emit_retirement i) (λ b s. (refl, λ c x. tt))
all_taken encode Call.DrainRetirements = taken_map ids_are drain_retirements (λ b s. (refl, λ c x. tt))
all_taken encode (Call.ReconciliationInputCoins outputs room) =
    taken_map written (reconciliation_input_coins outputs room)
    (λ b s. taken_cond Ends b (coin_listb outputs) _ _ (λ e. taken_writing room (encode_coins (input_coins_to_reconcile (coins_in outputs) b)) b s) (λ e. tt))
all_taken encode Call.ActiveIds = taken_map ids_are active_ids (λ b s. tt)
all_taken encode (Call.BeginReplay k) = taken_map flag (begin_replay k) (taken_begin k)
all_taken encode (Call.FinishReplayIfAdvanced k) = taken_map nothing (finish_replay_if_advanced k) (taken_finish k)
all_taken encode Call.ReplayRollbackHeight = taken_map height_is replay_rollback_height (λ b s. tt)
all_taken encode (Call.ReconcileChainTerminality observed spent reorg ids) = taken_map nothing (reconcile_chain_terminality observed spent reorg ids) (taken_reconcile observed spent reorg ids)
all_taken encode (Call.CausallyRolledBackIds absent inputs) = taken_map ids_are (causally_rolled_back_ids absent inputs) (λ b s. taken_cond Ends b (coin_listb absent && id_listb inputs) _ _ (λ e. tt) (λ e. tt))
all_taken encode (Call.AbsentOutputsForIds is absent room) =
    taken_map written (absent_outputs_for_ids is absent room)
    (λ b s. taken_cond Ends b (ids_ok is && coin_listb absent) _ _
    (λ e. taken_writing room (encode_coins (flat_map (λ t. absent_outputs (coins_in absent) t.entry.intent) (filter (λ t. elemb (id_of t) is) b.submitted))) b s) (λ e. tt))
all_taken encode (Call.CollectRollbackReplayIds is) = taken_map nothing (collect_rollback_replay_ids is) (taken_collect is)
all_taken encode Call.ClearLocalArtifacts = taken_map nothing clear_local_artifacts taken_clear
all_taken encode Call.RestoreRuntime = taken_map nothing restore_runtime (λ b s. taken_set_asides (map id_of b.submitted) b s)
all_taken encode (Call.Attempt t) = taken_map attempt_is (attempt t) (λ b s. tt)
all_taken encode (Call.Look i) = taken_map look_is (look_at i) (λ b s. tt)
all_taken encode Call.Summary = taken_map summary_is summary (λ b s. tt)
all_taken encode (Call.WriteArchive room) = taken_map written (write_archive encode room) (λ b s. taken_writing room (encode b) b s)
