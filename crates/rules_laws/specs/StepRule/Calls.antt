-- Every call's rules are paced, so for every call 10 goes by the paper's sentence.
use Rattle.std.specs.Prelude.{ℕ, suc, Bool, cond, not, ◌&&◌, ◌||◌, ◌≡◌, eqb, leb, length}
use Rattle.std.proofs.Math.Bool.{true, false}
use mathlib.Core.List.{List, [], ◌∷◌, map}
use Rattle.std.specs.Prelude.{Option, None, Some}
use Rattle.std.proofs.Math.Path.{refl}
use Rattle.base_lists.specs.Bytes.{eqs}
use Rattle.base_lists.specs.Lists.{elemb, rising}
use Rattle.std.specs.List.{filter, flat_map}
use Rattle.base_coin_string.specs.CoinIds.{id_listb, ids_in}
use Rattle.base_coin_string.specs.CoinList.{coins_in, coin_listb}
use Rattle.book.specs.declared.Height.{Height}
use Rattle.book.specs.declared.SpendBundle.{SpendBundle}
use Rattle.book.specs.declared.SubmittedTx.{SubmittedTx}
use Rattle.book.specs.declared.PendingDelivery.{PendingDelivery}
use Rattle.book.specs.declared.SubmissionId.{SubmissionId}
use Rattle.book.specs.declared.SubmissionDeliveryGoal.{SubmissionDeliveryGoal}
use Rattle.book.specs.declared.SubmissionDeliveryGoal.TheVariants.{EnsureBroadcast}
use Rattle.book.specs.declared.DeliveryTrigger.{DeliveryTrigger}
use Rattle.book.specs.declared.DeliveryTrigger.TheVariants.{Rollback, ProviderReadiness}
use Rattle.book.specs.declared.SubmissionChainTerminality.{SubmissionChainTerminality}
use Rattle.book.specs.declared.SubmissionChainTerminality.TheVariants.{Landed}
use Rattle.book.specs.Model.{Book}
use Rattle.book.specs.Sound.{readable_bundle, sound_delivery, id_of}
use Rattle.book_answers.specs.declared.DrainFailureCause.{DrainFailureCause}
use Rattle.book_answers.specs.declared.SubmissionFeeSource.{SubmissionFeeSource}
use Rattle.rules.specs.Call.{Call, failures, finalized, fee_intent_is, status_is, ids_are, flag, height_is, attempt_is, look_is, summary_is, written}
use Rattle.rules.specs.Calls.{rules, nothing}
use Rattle.rules.specs.CoinLists.{encode_coins}
use Rattle.rules.specs.Doors.{ids_ok}
use Rattle.rules.specs.Keyed.{pick}
use Rattle.rules.specs.Parts.{current_fingerprint, fee_unresolved, active_entry, intent_of, validate}
use Rattle.rules.specs.Rule.{done, reopen, revise, replay, Rule, undo, stop, look, act, turn, ◌>>=◌, ◌>>◌, step, Outcome, ended, undone, stopped, grows, Answer, answer, refused, ◌<$>◌}
use Rattle.rules.specs.Steps.Slots.{resolved}
use Rattle.rules.specs.Calls.AbandonAttempt.{abandon_live, abandon_attempt}
use Rattle.rules.specs.Calls.AbsentOutputsForIds.{absent_outputs, absent_outputs_for_ids}
use Rattle.rules.specs.Calls.AcknowledgeAttempt.{acknowledge_live, acknowledge_attempt}
use Rattle.rules.specs.Calls.Candidate.{deliver, met, known_by, known, unknown, named, unnamed, planned_by, candidate}
use Rattle.rules.specs.Calls.ClearLocalArtifacts.{clear_local_artifacts}
use Rattle.rules.specs.Calls.CollectRollbackReplayIds.{mark_each, offer_again, collect_rollback_replay_ids}
use Rattle.rules.specs.Calls.Common.{Found, live, aside, gone, never_issued, find, by_live, with_live, withdraw, withdraw_each, writing}
use Rattle.rules.specs.Calls.Drain.{is_one_of, one_candidate, candidates, drain}
use Rattle.rules.specs.Calls.FeeIntentForAttempt.{fee_intent_for_attempt}
use Rattle.rules.specs.Calls.FinalizeAttempt.{is_joined, is_not_requested, finalize_as, finalize_with, finalize_live, sound_source, finalize_attempt}
use Rattle.rules.specs.Calls.Offer.{is_queued, deliverable, offer_to, offer, goal_for}
use Rattle.rules.specs.Calls.Plan.{Memory, blank, with_emitted, last64, miss_of, wanted}
use Rattle.rules.specs.Calls.Queue.{queue}
use Rattle.rules.specs.Calls.QueueFeeReadiness.{offer_each, queue_fee_readiness}
use Rattle.rules.specs.Calls.QueueRebroadcastEpoch.{rebroadcast_of, rebroadcast, queue_rebroadcast_epoch}
use Rattle.rules.specs.Calls.QueueRetainedDelivery.{queue_retained_delivery}
use Rattle.rules.specs.Calls.ReconcileChainTerminality.{output_observed, input_spent, spent_as, halt, judge, judge_each, reconcile_chain_terminality}
use Rattle.rules.specs.Calls.ReconciliationInputCoins.{input_coins_to_reconcile, reconciliation_input_coins}
use Rattle.rules.specs.Calls.RelinquishCompletedAttempt.{relinquish_by, relinquish_completed_attempt}
use Rattle.rules.specs.Calls.Replay.{is_at, is_before, begin_replay, finish_replay_if_advanced, replay_rollback_height}
use Rattle.rules.specs.Calls.RestoreRuntime.{set_aside_each, restore_runtime}
use Rattle.rules.specs.Calls.RetainSubmitted.{to_remove, retain_submitted}
use Rattle.rules.specs.Calls.StopAttempt.{stop_live, stop_attempt}
use Rattle.rules.specs.Calls.EmitRetirement.{emit_retirement}
use Rattle.rules.specs.Calls.DrainRetirements.{drain_retirements}
use Rattle.rules.specs.Calls.ActiveIds.{active_ids}
use Rattle.rules.specs.Calls.CausallyRolledBackIds.{causally_rolled_back_ids}
use Rattle.rules.specs.Calls.Attempt.{attempt}
use Rattle.rules.specs.Calls.Look.{look_at}
use Rattle.rules.specs.Calls.Summary.{summary}
use Rattle.rules.specs.Calls.WriteArchive.{write_archive}
use Rattle.rules_laws.specs.StepRule.Free.{PacedTo, Settled}
use Rattle.book.specs.Refusals as refusals
use Rattle.book.specs.Refusals.{refusal_number}

no_shrink : (g : Bool) → (g && false) ≡ false
no_shrink true = refl
no_shrink false = refl

paced_bind : {A B : Type 0} (P : Bool → B → Type 0) (g : Bool) (m : Rule A) (f : A → Rule B) → PacedTo (λ h a. PacedTo P h (f a)) g m → PacedTo P g (m >>= f)
paced_bind P g (done a) f p = p
paced_bind P g (undo n) f p = p
paced_bind P g (stop n) f p = p
paced_bind P g (look k) f p = λ b. paced_bind P g (k b) f (p b)
paced_bind P g (act q r) f p = (p.0, paced_bind P (g || grows q) r f p.1)
paced_bind P g (turn r) f p = paced_bind P false r f p

paced_cond : {A : Type 0} (P : Bool → A → Type 0) (g : Bool) (t : Bool) (x y : Rule A) → PacedTo P g x → PacedTo P g y → PacedTo P g (cond t x y)
paced_cond P g true x y p q = p
paced_cond P g false x y p q = q

abbrev pub Paced : {A : Type 0} → Rule A → Type 0
Paced r = PacedTo Settled false r

-- the same rules with their answer made into another
paced_map : {A B : Type 0} (f : A → B) (r : Rule A) → Paced r → Paced (f <$> r)
paced_map f r p = paced_bind Settled false r (λ a. done (f a)) p

-- ---- shared parts
paced_withdraw : (P : Bool → Unit {0} → Type 0) → ((g : Bool) → P g tt) → (i : ℕ) → PacedTo P false (withdraw i)
unfolding withdraw
paced_withdraw P h i = (refl, (refl, h true))

paced_withdraws : {B : Type 0} (P : Bool → B → Type 0) (r : Rule B) → PacedTo P false r → (is : List ℕ) → PacedTo P false (withdraw_each is >> r)
unfolding withdraw_each
paced_withdraws P r h [] = h
paced_withdraws P r h (i ∷ is) = unfold withdraw in (refl, (refl, paced_withdraws P r h is))

paced_offer_to : (P : Bool → Unit {0} → Type 0) → ((g : Bool) → P g tt) → (w : DeliveryTrigger) (goal : SubmissionDeliveryGoal) (g q : Bool) (ts : List SubmittedTx) → PacedTo P g (offer_to w goal q ts)
paced_offer_to P h w goal g q [] = h g
paced_offer_to P h w goal g q (t ∷ ts) = paced_cond P g (not q && deliverable w goal t) _ _ (no_shrink g, h (g || true)) (h g)

paced_offer : (P : Bool → Unit {0} → Type 0) → ((g : Bool) → P g tt) → (i : ℕ) (w : DeliveryTrigger) (goal : SubmissionDeliveryGoal) (g : Bool) → PacedTo P g (offer i w goal)
unfolding offer
paced_offer P h i w goal g = λ b. paced_offer_to P h w goal g (is_queued i b) (pick id_of i b.submitted)

paced_by_live : {A : Type 0} (v : A) (k : SubmittedTx → Rule A) → ((s : SubmittedTx) → Paced (k s)) → (f : Found) → Paced (by_live v k f)
paced_by_live v k h (live s) = h s
paced_by_live v k h aside = refl
paced_by_live v k h gone = refl
paced_by_live v k h never_issued = (refl, refl)

paced_live : {A : Type 0} (t : ℕ) (v : A) (k : SubmittedTx → Rule A) → ((s : SubmittedTx) → Paced (k s)) → Paced (with_live t v k)
unfolding with_live
paced_live t v k h = λ b. paced_by_live v k h (find t b)

paced_writing : (room : ℕ) (s : List ℕ) → Paced (writing room s)
unfolding writing
paced_writing room s = paced_cond Settled false (leb (length s) room) _ _ refl (refl, refl)

-- ---- queue
paced_queue : (d : PendingDelivery) → Paced (queue d)
unfolding queue
paced_queue d = paced_cond Settled false (sound_delivery d) _ _ (refl, refl) (refl, refl)

paced_retained_delivery : (i : ℕ) (w : DeliveryTrigger) (goal : SubmissionDeliveryGoal) → Paced (queue_retained_delivery i w goal)
unfolding queue_retained_delivery
paced_retained_delivery i w goal = paced_bind Settled false (offer i w goal) _ (paced_offer _ (λ g. refl) i w goal false)

paced_rebroadcast : (w : DeliveryTrigger) (is : List ℕ) → Paced (rebroadcast w is)
unfolding rebroadcast
paced_rebroadcast w [] = refl
paced_rebroadcast w (i ∷ is) = λ b. paced_bind Settled false (rebroadcast_of w (pick id_of i b.submitted)) _ (one (pick id_of i b.submitted) (paced_rebroadcast w is))
  where
    one : (ts : List SubmittedTx) → Paced (rebroadcast w is) → PacedTo (λ g a. Paced (rebroadcast w is)) false (rebroadcast_of w ts)
    one [] h = h
    one (t ∷ ts) h = paced_offer (λ g a. Paced (rebroadcast w is)) (λ g. h) (id_of t) w (goal_for t.entry) false

paced_epoch : (is : List ℕ) (w : DeliveryTrigger) → Paced (queue_rebroadcast_epoch is w)
unfolding queue_rebroadcast_epoch
paced_epoch is w = paced_cond Settled false (ids_ok is) _ _ (paced_rebroadcast w is) (refl, refl)

paced_offers : (w : DeliveryTrigger) (ts : List SubmittedTx) → Paced (offer_each w ts)
unfolding offer_each
paced_offers w [] = refl
paced_offers w (t ∷ ts) = paced_bind Settled false (offer (id_of t) w (goal_for t.entry)) _ (paced_offer (λ g a. Paced (offer_each w ts)) (λ g. paced_offers w ts) (id_of t) w (goal_for t.entry) false)

paced_readiness : Paced queue_fee_readiness
unfolding queue_fee_readiness
paced_readiness = λ b. paced_offers ProviderReadiness (filter (λ t. active_entry t.entry && fee_unresolved t.entry) b.submitted)

-- ---- drain
module _ (P : Bool → Memory → Type 0) (h : (g : Bool) (a : Memory) → P g a) where
  paced_deliver : (g : Bool) (i : ℕ) (goal : SubmissionDeliveryGoal) (a : Memory) → PacedTo P g (deliver i goal a)
  unfolding deliver
  paced_deliver g i goal a = paced_cond P g (elemb i a.emitted) _ _ (h g a)
      (λ b. paced_cond P g (eqb b.next_token.0 last64) _ _ refl (no_shrink g, h (g || false) (with_emitted i a)))

  paced_met : (c : PendingDelivery) (t : SubmittedTx) (a : Memory) → PacedTo P false (met c t a)
  unfolding met
  paced_met c t a = (refl, paced_cond P false (wanted c.goal t.entry) _ _ (paced_deliver false (id_of t) c.goal a) (h false a))

  paced_known : (n : ℕ) (c : PendingDelivery) (f : List ℕ) (t : SubmittedTx) (a : Memory) (m : Option DrainFailureCause) → PacedTo P false (known_by n c f t a m)
  paced_known n c f t a None = paced_met c t a
  paced_known n c f t a (Some m) = paced_bind P false (withdraw (id_of t)) _ (paced_withdraw _ (λ g. h g _) (id_of t))

  paced_unknown : (n : ℕ) (c : PendingDelivery) (f : List ℕ) (b : Book) (a : Memory) → PacedTo P false (unknown n c f b a)
  unfolding unknown
  paced_unknown n c f b a =
      paced_cond P false (elemb b.next_id.0 (map id_of b.submitted)) _ _ (h false _)
      (paced_cond P false (not (readable_bundle c.intent.bundle)) _ _ (h false _)
      (paced_cond P false (eqb b.next_id.0 last64) _ _ (h false _)
      (refl, paced_deliver true b.next_id.0 c.goal a)))

  paced_named : (n : ℕ) (c : PendingDelivery) (f : List ℕ) (i : ℕ) (a : Memory) (ts : List SubmittedTx) → PacedTo P false (named n c f i a ts)
  unfolding known
  paced_named n c f i a [] = h false _
  paced_named n c f i a (t ∷ ts) = paced_known n c f t a (miss_of c.intent f t.entry)

  paced_unnamed : (n : ℕ) (c : PendingDelivery) (f : List ℕ) (b : Book) (a : Memory) (ts : List SubmittedTx) → PacedTo P false (unnamed n c f b a ts)
  unfolding known
  paced_unnamed n c f b a [] = paced_unknown n c f b a
  paced_unnamed n c f b a (t ∷ ts) = paced_known n c f t a (miss_of c.intent f t.entry)

  paced_planned : (n : ℕ) (c : PendingDelivery) (f : List ℕ) (b : Book) (a : Memory) (i : Option SubmissionId) → PacedTo P false (planned_by n c f b a i)
  paced_planned n c f b a None = paced_unnamed n c f b a (filter (λ t. eqs t.entry.intent.intent_fingerprint f) b.submitted)
  paced_planned n c f b a (Some i) = paced_named n c f i.0 a (pick id_of i.0 b.submitted)

  paced_one : (n : ℕ) (c : PendingDelivery) (a : Memory) → PacedTo P false (one_candidate n c a)
  unfolding one_candidate candidate
  paced_one n c a = paced_cond P false (is_one_of c.intent.id a.removed) _ _ (h false a) (λ b. paced_planned n c (intent_of c.intent) b a c.intent.id)

paced_candidates : (n : ℕ) (cs : List PendingDelivery) (a : Memory) → Paced (candidates n cs a)
unfolding candidates
paced_candidates n [] a = refl
paced_candidates n (c ∷ cs) a =
    paced_bind Settled false (one_candidate n c a) (λ a'. turn (candidates (suc n) cs a'))
    (paced_one (λ g a'. Paced (candidates (suc n) cs a')) (λ g a'. paced_candidates (suc n) cs a') n c a)

paced_drain : Paced drain
unfolding drain
paced_drain = λ b. (refl, paced_candidates 0 b.pending blank)

-- ---- attempts
paced_finalize_with : (source : SubmissionFeeSource) (j : SpendBundle) (t : SubmittedTx) → Paced (finalize_with source j t)
unfolding finalize_with finalize_as
paced_finalize_with source j t =
    paced_cond Settled false (fee_unresolved t.entry) _ _
    (paced_cond Settled false (is_joined source) _ _ (refl, (refl, refl)) (refl, refl))
    (paced_cond Settled false (is_not_requested source) _ _ (refl, refl) (refl, refl))

paced_finalize_live : (source : SubmissionFeeSource) (j : SpendBundle) (t : SubmittedTx) → Paced (finalize_live source j t)
unfolding finalize_live
paced_finalize_live source j t =
    paced_cond Settled false t.slots.active_attempt.attempt.finalized_variant_fingerprint.present _ _ (refl, refl)
    (paced_cond Settled false (not (validate t.entry)) _ _ (refl, refl)
    (paced_cond Settled false (eqs (current_fingerprint t.entry) t.slots.active_attempt.attempt.drained_variant_fingerprint) _ _ (paced_finalize_with source j t) (refl, refl)))

paced_finalize : (t : ℕ) (source : SubmissionFeeSource) (j : SpendBundle) → Paced (finalize_attempt t source j)
unfolding finalize_attempt
paced_finalize t source j = paced_cond Settled false (sound_source source j) _ _ (paced_live t _ _ (paced_finalize_live source j)) (refl, refl)

paced_fee : (t : ℕ) → Paced (fee_intent_for_attempt t)
unfolding fee_intent_for_attempt
paced_fee t = paced_live t _ _ (λ s. refl)

paced_acknowledge : (t : ℕ) → Paced (acknowledge_attempt t)
unfolding acknowledge_attempt acknowledge_live
paced_acknowledge t = paced_live t _ _ (λ s.
    paced_cond Settled false (not s.slots.active_attempt.attempt.finalized_variant_fingerprint.present) _ _ (refl, refl)
    (paced_cond Settled false (eqs (current_fingerprint s.entry) (resolved s.slots.active_attempt.attempt)) _ _ (refl, (refl, (refl, refl))) (refl, refl)))

paced_stop : (t : ℕ) → Paced (stop_attempt t)
unfolding stop_attempt stop_live
paced_stop t = paced_live t _ _ (λ s. (refl, refl))

paced_abandon : (t : ℕ) → Paced (abandon_attempt t)
unfolding abandon_attempt abandon_live withdraw
paced_abandon t = paced_live t _ _ (λ s. (refl, (refl, refl)))

paced_relinquish : (t : ℕ) → Paced (relinquish_completed_attempt t)
unfolding relinquish_completed_attempt
paced_relinquish t = λ b. go (find t b)
  where
    go : (f : Found) → Paced (relinquish_by f)
    go (live s) = refl
    go aside = refl
    go gone = refl
    go never_issued = (refl, refl)

-- ---- removal and retirements
paced_retain_submitted : (is : List ℕ) → Paced (retain_submitted is)
unfolding retain_submitted
paced_retain_submitted is = paced_cond Settled false (ids_ok is) _ _ (λ b. paced_withdraws Settled _ refl (to_remove is b)) (refl, refl)

paced_clear : Paced clear_local_artifacts
unfolding clear_local_artifacts
paced_clear = λ b. paced_withdraws Settled _ (refl, (refl, refl)) (rising (map id_of b.submitted))

-- ---- chain and replay
paced_halt : (P : Bool → Unit {0} → Type 0) → ((g : Bool) → P g tt) → (i : ℕ) (c : SubmissionChainTerminality) → PacedTo P false (halt i c)
unfolding halt
paced_halt P h i c = (refl, (refl, (refl, (refl, (refl, h true)))))

paced_judges : (observed spent : List (List ℕ)) (reorg : Bool) (ids : List ℕ) (ts : List SubmittedTx) → Paced (judge_each observed spent reorg ids ts)
unfolding judge_each judge
paced_judges observed spent reorg ids [] = refl
paced_judges observed spent reorg ids (t ∷ ts) = paced_bind Settled false (judge observed spent reorg ids t) _ (one (paced_judges observed spent reorg ids ts))
  where
    P : Bool → Unit {0} → Type 0
    P g a = Paced (judge_each observed spent reorg ids ts)

    one : Paced (judge_each observed spent reorg ids ts) → PacedTo P false (judge observed spent reorg ids t)
    one h =
        paced_cond P false (output_observed observed t.entry.intent) _ _ (paced_halt P (λ g. h) (id_of t) Landed)
        (paced_cond P false (input_spent spent t.entry.intent) _ _ (paced_halt P (λ g. h) (id_of t) (spent_as reorg t.entry.state.status.chain_terminality))
        (paced_cond P false (elemb (id_of t) ids) _ _ (refl, h) h))

paced_reconcile : (observed spent : List ℕ) (reorg : Bool) (ids : List ℕ) → Paced (reconcile_chain_terminality observed spent reorg ids)
unfolding reconcile_chain_terminality
paced_reconcile observed spent reorg ids =
    paced_cond Settled false (coin_listb observed && id_listb spent && ids_ok ids) _ _ (λ b. paced_judges (coins_in observed) (ids_in spent) reorg ids b.submitted) (refl, refl)

paced_offer_again : (is : List ℕ) → Paced (offer_again is)
unfolding offer_again
paced_offer_again [] = refl
paced_offer_again (i ∷ is) = paced_bind Settled false (offer i Rollback EnsureBroadcast) _ (paced_offer (λ g a. Paced (offer_again is)) (λ g. paced_offer_again is) i Rollback EnsureBroadcast false)

paced_marks : {A : Type 0} (b : Book) (r : Rule A) → Paced r → (is : List ℕ) → Paced (mark_each b is >> r)
unfolding mark_each
paced_marks b r h [] = h
paced_marks b r h (i ∷ is) = go (elemb i b.replayed) (paced_marks b r h is)
  where
    go : (t : Bool) → Paced (mark_each b is >> r) → Paced ((cond t (done tt) (step (replay i) >> step (revise i reopen)) >> mark_each b is) >> r)
    go true k = k
    go false k = (refl, (refl, k))

paced_collect : (is : List ℕ) → Paced (collect_rollback_replay_ids is)
unfolding collect_rollback_replay_ids
paced_collect is = paced_cond Settled false (ids_ok is) _ _
    (λ b. paced_marks b _ (paced_offer_again (filter (λ i. elemb i is) (map id_of b.submitted))) (filter (λ i. elemb i is) (map id_of b.submitted))) (refl, refl)

paced_set_asides : (is : List ℕ) → Paced (set_aside_each is)
unfolding set_aside_each
paced_set_asides [] = refl
paced_set_asides (i ∷ is) = (refl, paced_set_asides is)

paced_begin : (h : Height) → Paced (begin_replay h)
unfolding begin_replay
paced_begin h = λ b. paced_cond Settled false (is_at b.rollback h.0) _ _ refl (refl, refl)

paced_finish : (h : Height) → Paced (finish_replay_if_advanced h)
unfolding finish_replay_if_advanced
paced_finish h = λ b. paced_cond Settled false (is_before b.rollback h.0) _ _ (refl, refl) refl

-- ---- every call
pub paced : (encode : Book → List ℕ) (c : Call) → Paced (rules encode c)
unfolding rules
paced encode (Call.Queue d) = paced_map nothing (queue d) (paced_queue d)
paced encode (Call.QueueRebroadcastEpoch is w) = paced_map nothing (queue_rebroadcast_epoch is w) (paced_epoch is w)
paced encode Call.QueueFeeReadiness = paced_map nothing queue_fee_readiness paced_readiness
paced encode (Call.QueueRetainedDelivery i w g) = paced_map nothing (queue_retained_delivery i w g) (paced_retained_delivery i w g)
paced encode Call.Drain = paced_map failures drain paced_drain
paced encode (Call.FinalizeAttempt t source j) = paced_map finalized (finalize_attempt t source j) (paced_finalize t source j)
paced encode (Call.FeeIntentForAttempt t) = paced_map fee_intent_is (fee_intent_for_attempt t) (paced_fee t)
paced encode (Call.AcknowledgeAttempt t) = paced_map status_is (acknowledge_attempt t) (paced_acknowledge t)
paced encode (Call.StopAttempt t) = paced_map status_is (stop_attempt t) (paced_stop t)
paced encode (Call.AbandonAttempt t) = paced_map status_is (abandon_attempt t) (paced_abandon t)
paced encode (Call.RelinquishCompletedAttempt t) = paced_map status_is (relinquish_completed_attempt t) (paced_relinquish t)
paced encode (Call.RetainSubmitted is) = paced_map ids_are (retain_submitted is) (paced_retain_submitted is)
paced encode (Call.EmitRetirement i) = paced_map nothing (emit_retirement i) (refl, refl)
paced encode Call.DrainRetirements = paced_map ids_are drain_retirements (λ b. (refl, refl))
paced encode (Call.ReconciliationInputCoins outputs room) =
    paced_map written (reconciliation_input_coins outputs room)
    (paced_cond Settled false (coin_listb outputs) _ _ (λ b. paced_writing room (encode_coins (input_coins_to_reconcile (coins_in outputs) b))) (refl, refl))
paced encode Call.ActiveIds = paced_map ids_are active_ids (λ b. refl)
paced encode (Call.BeginReplay h) = paced_map flag (begin_replay h) (paced_begin h)
paced encode (Call.FinishReplayIfAdvanced h) = paced_map nothing (finish_replay_if_advanced h) (paced_finish h)
paced encode Call.ReplayRollbackHeight = paced_map height_is replay_rollback_height (λ b. refl)
paced encode (Call.ReconcileChainTerminality observed spent reorg ids) = paced_map nothing (reconcile_chain_terminality observed spent reorg ids) (paced_reconcile observed spent reorg ids)
paced encode (Call.CausallyRolledBackIds absent inputs) =
    paced_map ids_are (causally_rolled_back_ids absent inputs) (paced_cond Settled false (coin_listb absent && id_listb inputs) _ _ (λ b. refl) (refl, refl))
paced encode (Call.AbsentOutputsForIds is absent room) =
    paced_map written (absent_outputs_for_ids is absent room)
    (paced_cond Settled false (ids_ok is && coin_listb absent) _ _
    (λ b. paced_writing room (encode_coins (flat_map (λ t. absent_outputs (coins_in absent) t.entry.intent) (filter (λ t. elemb (id_of t) is) b.submitted)))) (refl, refl))
paced encode (Call.CollectRollbackReplayIds is) = paced_map nothing (collect_rollback_replay_ids is) (paced_collect is)
paced encode Call.ClearLocalArtifacts = paced_map nothing clear_local_artifacts paced_clear
paced encode Call.RestoreRuntime = paced_map nothing restore_runtime (λ b. paced_set_asides (map id_of b.submitted))
paced encode (Call.Attempt t) = paced_map attempt_is (attempt t) (λ b. refl)
paced encode (Call.Look i) = paced_map look_is (look_at i) (λ b. refl)
paced encode Call.Summary = paced_map summary_is summary (λ b. refl)
paced encode (Call.WriteArchive room) = paced_map written (write_archive encode room) (λ b. paced_writing room (encode b))

-- ---- the numbers
-- turned away by a number that `ok` allows, or stopped by 11, or neither
abbrev pub Numbered : {A : Type 0} → (ℕ → Bool) → Outcome Book A → Type 0
Numbered ok (ended b xs a) = Unit {0}
Numbered ok (undone n) = ok (refusal_number n) ≡ true
Numbered ok (stopped b xs n) = refusal_number n ≡ refusals.no_token

abbrev pub refused_by : {A : Type 0} → ℕ → Answer A → Bool
refused_by n (answer xs a) = false
refused_by n (refused m) = eqb m n
