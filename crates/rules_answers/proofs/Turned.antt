-- Theorems on specs/Turned.antt.
use Rattle.std.specs.Prelude.{ℕ, Bool, true, false, cond, not, ◌&&◌, List, [], ◌∷◌, map, ◌≡◌, refl, leb, length}
use Rattle.base_lists.specs.Bytes.{eqs}
use Rattle.base_lists.specs.Lists.{elemb, rising}
use Rattle.std.specs.List.{filter, flat_map}
use Rattle.base_coin_string.specs.CoinIds.{id_listb, ids_in}
use Rattle.base_coin_string.specs.CoinList.{coins_in, coin_listb}
use Rattle.book.specs.declared.SpendBundle.{SpendBundle}
use Rattle.book.specs.declared.SubmittedTx.{SubmittedTx}
use Rattle.book.specs.declared.SubmissionDeliveryGoal.{SubmissionDeliveryGoal}
use Rattle.book.specs.declared.SubmissionDeliveryGoal.TheVariants.{EnsureBroadcast}
use Rattle.book.specs.declared.DeliveryTrigger.{DeliveryTrigger}
use Rattle.book.specs.declared.DeliveryTrigger.TheVariants.{Rollback, ProviderReadiness}
use Rattle.book.specs.Model.{Book}
use Rattle.book.specs.Sound.{sound_delivery, id_of}
use Rattle.book_answers.specs.declared.DrainedSubmission.{DrainedSubmission}
use Rattle.book_answers.specs.declared.SubmissionFeeSource.{SubmissionFeeSource}
use Rattle.rules.specs.Call.{Call, failures, finalized, fee_intent_is, status_is, ids_are, flag, height_is, attempt_is, look_is, summary_is, written}
use Rattle.rules.specs.Calls.{rules, nothing}
use Rattle.rules.specs.CoinLists.{encode_coins}
use Rattle.rules.specs.Doors.{ids_ok}
use Rattle.rules.specs.Keyed.{pick}
use Rattle.rules.specs.Parts.{current_fingerprint, fee_unresolved, active_entry, validate}
use Rattle.rules.specs.Rule.{Rule, done, undo, stop, look, act, turn, ◌>>=◌, ◌>>◌, Outcome, ended, undone, stopped, logged, guarded, grows, full, run, step, replay, revise, reopen, ◌<$>◌}
use Rattle.rules.specs.Steps.{on_book, run_book}
use Rattle.rules.specs.Steps.Slots.{resolved}
use Rattle.rules.specs.Calls.AbandonAttempt.{abandon_live, abandon_attempt}
use Rattle.rules.specs.Calls.AbsentOutputsForIds.{absent_outputs as absentOutputsOf, absent_outputs_for_ids}
use Rattle.rules.specs.Calls.ReconciliationInputCoins.{input_coins_to_reconcile, reconciliation_input_coins}
use Rattle.rules.specs.Calls.AcknowledgeAttempt.{acknowledge_live, acknowledge_attempt}
use Rattle.rules.specs.Calls.CollectRollbackReplayIds.{mark_each, offer_again, collect_rollback_replay_ids}
use Rattle.rules.specs.Calls.Common.{Found, live, aside, gone, never_issued, find, by_live, with_live, withdraw, withdraw_each, writing}
use Rattle.rules.specs.Calls.Drain.{drain}
use Rattle.rules.specs.Calls.FinalizeAttempt.{is_joined, is_not_requested, finalize_as, finalize_with, finalize_live, sound_source, finalize_attempt}
use Rattle.rules.specs.Calls.Offer.{is_queued, deliverable, offer_to, offer, goal_for}
use Rattle.rules.specs.Calls.Queue.{queue}
use Rattle.rules.specs.Calls.QueueFeeReadiness.{offer_each, queue_fee_readiness}
use Rattle.rules.specs.Calls.QueueRebroadcastEpoch.{rebroadcast_of, rebroadcast, queue_rebroadcast_epoch}
use Rattle.rules.specs.Calls.ReconcileChainTerminality.{output_observed, input_spent, halt, judge, judge_each, reconcile_chain_terminality}
use Rattle.rules.specs.Calls.RelinquishCompletedAttempt.{relinquish_by, relinquish_completed_attempt}
use Rattle.rules.specs.Calls.Replay.{is_at, is_before, replay_rollback_height, begin_replay, finish_replay_if_advanced}
use Rattle.rules.specs.Calls.RestoreRuntime.{set_aside_each, restore_runtime}
use Rattle.rules.specs.Calls.RetainSubmitted.{to_remove, retain_submitted}
use Rattle.rules.specs.Calls.StopAttempt.{stop_live, stop_attempt}
use Rattle.rules.specs.Calls.EmitRetirement.{emit_retirement}
use Rattle.rules.specs.Calls.DrainRetirements.{drain_retirements}
use Rattle.rules.specs.Calls.ActiveIds.{active_ids}
use Rattle.rules.specs.Calls.Attempt.{attempt}
use Rattle.rules.specs.Calls.Look.{look_at}
use Rattle.rules.specs.Calls.Summary.{summary}
use Rattle.rules.specs.Calls.CausallyRolledBackIds.{causally_rolled_back_ids}
use Rattle.rules.specs.Calls.WriteArchive.{write_archive}
use Rattle.rules.specs.Calls.QueueRetainedDelivery.{queue_retained_delivery}
use Rattle.rules.specs.Calls.FeeIntentForAttempt.{fee_intent_for_attempt}
use Rattle.rules.specs.Calls.ClearLocalArtifacts.{clear_local_artifacts}
use Rattle.rules_answers.specs.Kind.{kind_of, is_drain, asks_room}
use Rattle.book.specs.declared.refusal.Refusal.TheVariants as refusals
use Rattle.book.specs.Refusals.{refusal_number}
use Rattle.rules_answers.specs.Turned.{no_refusal, TurnsBy, TurnedAway, Turns, turns_bind, turns_cond, turns_drain}

full_turns : (w : Bool) → no_refusal w (refusal_number refusals.Full) ≡ false
full_turns true = refl
full_turns false = refl

turned_logged : {A : Type 0} (d w t : Bool) (xs : List DrainedSubmission) (o : Outcome Book A) → TurnedAway d w o → TurnedAway d w (guarded t (logged xs o))
turned_logged d w true xs o h = full_turns w
turned_logged d w false xs (ended m ys a) h = h
turned_logged d w false xs (undone n) h = h
turned_logged d w false xs (stopped m ys n) h = h

turned_run : {A : Type 0} (d w : Bool) (r : Rule A) (b : Book) → TurnsBy d w r → TurnedAway d w (run_book r b)
unfolding run
turned_run d w (done a) b h = tt
turned_run d w (undo n) b h = h
turned_run d w (stop n) b h = h
turned_run d w (look k) b h = turned_run d w (k b) b (h b)
turned_run d w (act p r) b h = turned_logged d w (grows p && full (on_book p b).after) (on_book p b).out (run_book r (on_book p b).after) (turned_run d w r (on_book p b).after h)
turned_run d w (turn r) b h = turned_run d w r b h

-- ---- shared parts
turns_offer_to : (d : Bool) (w : DeliveryTrigger) (g : SubmissionDeliveryGoal) (q : Bool) (ts : List SubmittedTx) → Turns d (offer_to w g q ts)
turns_offer_to d w g q [] = tt
turns_offer_to d w g q (t ∷ ts) = turns_cond d (not q && deliverable w g t) _ _ tt tt

turns_offer : (d : Bool) (i : ℕ) (w : DeliveryTrigger) (g : SubmissionDeliveryGoal) → Turns d (offer i w g)
unfolding offer
turns_offer d i w g b = turns_offer_to d w g (is_queued i b) (pick id_of i b.submitted)

turns_offered : {A : Type 0} (d : Bool) (i : ℕ) (w : DeliveryTrigger) (g : SubmissionDeliveryGoal) (r : Unit {0} → Rule A) → Turns d (r tt) → Turns d (offer i w g >>= r)
turns_offered d i w g r h = turns_bind d (offer i w g) r (turns_offer d i w g) (λ u. h)

turns_withdraws : {A : Type 0} (d : Bool) (r : Rule A) → Turns d r → (is : List ℕ) → Turns d (withdraw_each is >> r)
unfolding withdraw_each withdraw
turns_withdraws d r h [] = h
turns_withdraws d r h (i ∷ is) = turns_withdraws d r h is

turns_by_live : {A : Type 0} (d : Bool) (v : A) (k : SubmittedTx → Rule A) → ((s : SubmittedTx) → Turns d (k s)) → (f : Found) → Turns d (by_live v k f)
turns_by_live d v k h (live s) = h s
turns_by_live d v k h aside = tt
turns_by_live d v k h gone = tt
turns_by_live d v k h never_issued = refl

turns_live : {A : Type 0} (d : Bool) (t : ℕ) (v : A) (k : SubmittedTx → Rule A) → ((s : SubmittedTx) → Turns d (k s)) → Turns d (with_live t v k)
unfolding with_live
turns_live d t v k h b = turns_by_live d v k h (find t b)

-- ---- queue
turns_rebroadcast : (d : Bool) (w : DeliveryTrigger) (is : List ℕ) → Turns d (rebroadcast w is)
unfolding rebroadcast
turns_rebroadcast d w [] = tt
turns_rebroadcast d w (i ∷ is) = λ b. turns_bind d (rebroadcast_of w (pick id_of i b.submitted)) _ (one (pick id_of i b.submitted)) (λ u. turns_rebroadcast d w is)
  where
    one : (ts : List SubmittedTx) → Turns d (rebroadcast_of w ts)
    one [] = tt
    one (t ∷ ts) = turns_offer d (id_of t) w (goal_for t.entry)

turns_offers : (d : Bool) (w : DeliveryTrigger) (ts : List SubmittedTx) → Turns d (offer_each w ts)
unfolding offer_each
turns_offers d w [] = tt
turns_offers d w (t ∷ ts) = turns_offered d (id_of t) w (goal_for t.entry) (λ _. turn (offer_each w ts)) (turns_offers d w ts)

-- ---- attempts
turns_finalize : (d : Bool) (t : ℕ) (source : SubmissionFeeSource) (j : SpendBundle) → Turns d (finalize_attempt t source j)
unfolding finalize_attempt finalize_live finalize_with finalize_as
turns_finalize d t source j =
    turns_cond d (sound_source source j) _ _
    (turns_live d t _ _ (λ s.
    turns_cond d s.slots.active_attempt.attempt.finalized_variant_fingerprint.present _ _ refl
    (turns_cond d (not (validate s.entry)) _ _ refl
    (turns_cond d (eqs (current_fingerprint s.entry) s.slots.active_attempt.attempt.drained_variant_fingerprint) _ _
    (turns_cond d (fee_unresolved s.entry) _ _ (turns_cond d (is_joined source) _ _ tt tt) (turns_cond d (is_not_requested source) _ _ tt refl))
    refl))))
    refl

turns_acknowledge : (d : Bool) (t : ℕ) → Turns d (acknowledge_attempt t)
unfolding acknowledge_attempt acknowledge_live
turns_acknowledge d t = turns_live d t _ _ (λ s.
    turns_cond d (not s.slots.active_attempt.attempt.finalized_variant_fingerprint.present) _ _ refl
    (turns_cond d (eqs (current_fingerprint s.entry) (resolved s.slots.active_attempt.attempt)) _ _ tt refl))

turns_relinquish : (d : Bool) (f : Found) → Turns d (relinquish_by f)
turns_relinquish d (live s) = tt
turns_relinquish d aside = tt
turns_relinquish d gone = tt
turns_relinquish d never_issued = refl

-- ---- chain and replay
turns_judges : (d : Bool) (observed spent : List (List ℕ)) (reorg : Bool) (ids : List ℕ) (ts : List SubmittedTx) → Turns d (judge_each observed spent reorg ids ts)
unfolding judge_each judge halt
turns_judges d observed spent reorg ids [] = tt
turns_judges d observed spent reorg ids (t ∷ ts) =
    turns_bind d (judge observed spent reorg ids t) (λ _. turn (judge_each observed spent reorg ids ts))
    (turns_cond d (output_observed observed t.entry.intent) _ _ tt (turns_cond d (input_spent spent t.entry.intent) _ _ tt (turns_cond d (elemb (id_of t) ids) _ _ tt tt)))
    (λ u. turns_judges d observed spent reorg ids ts)

turns_offer_again : (d : Bool) (is : List ℕ) → Turns d (offer_again is)
unfolding offer_again
turns_offer_again d [] = tt
turns_offer_again d (i ∷ is) = turns_offered d i Rollback EnsureBroadcast (λ _. turn (offer_again is)) (turns_offer_again d is)

turns_marks : (d : Bool) (b0 : Book) (is : List ℕ) → Turns d (mark_each b0 is)
unfolding mark_each
turns_marks d b0 [] = tt
turns_marks d b0 (i ∷ is) = go (elemb i b0.replayed) (turns_marks d b0 is)
  where
    go : (t : Bool) → Turns d (mark_each b0 is) → Turns d (cond t (done tt) (step (replay i) >> step (revise i reopen)) >> mark_each b0 is)
    go true h = h
    go false h = h

turns_set_asides : (d : Bool) (is : List ℕ) → Turns d (set_aside_each is)
unfolding set_aside_each
turns_set_asides d [] = tt
turns_set_asides d (i ∷ is) = turns_set_asides d is

turns_collect : (d : Bool) (is : List ℕ) → Turns d (collect_rollback_replay_ids is)
unfolding collect_rollback_replay_ids
turns_collect d is =
    turns_cond d (ids_ok is) _ _
    (λ b. turns_bind d (mark_each b (filter (λ i. elemb i is) (map id_of b.submitted))) _ (turns_marks d b (filter (λ i. elemb i is) (map id_of b.submitted))) (λ u. turns_offer_again d (filter (λ i. elemb i is) (map id_of b.submitted))))
    refl

-- ---- into a buffer
turns_writing : (room : ℕ) (s : List ℕ) → TurnsBy false true (writing room s)
unfolding writing
turns_writing room s = go (leb (length s) room)
  where
    go : (t : Bool) → TurnsBy false true (cond t (done s) (undo refusals.ShortBuffer))
    go true = tt
    go false = refl

turns_asked : {A : Type 0} (t : Bool) (k : Book → Rule A) → ((b : Book) → TurnsBy false true (k b)) → TurnsBy false true (cond t (look k) (undo refusals.BadList))
turns_asked true k h = h
turns_asked false k h = refl

-- ---- every call
-- the same rules with their answer made into another
turns_map : {A B : Type 0} (d w : Bool) (f : A → B) (r : Rule A) → TurnsBy d w r → TurnsBy d w (f <$> r)
turns_map d w f (done a) h = tt
turns_map d w f (undo n) h = h
turns_map d w f (stop n) h = h
turns_map d w f (look k) h = λ b. turns_map d w f (k b) (h b)
turns_map d w f (act p r) h = turns_map d w f r h
turns_map d w f (turn r) h = turns_map d w f r h

turns : (encode : Book → List ℕ) (c : Call) → TurnsBy (is_drain (kind_of c)) (asks_room (kind_of c)) (rules encode c)
unfolding rules
turns encode (Call.Queue x) = turns_map false false nothing (queue x) (turns_cond false (sound_delivery x) _ _ tt refl)
turns encode (Call.QueueRebroadcastEpoch is w) = turns_map false false nothing (queue_rebroadcast_epoch is w) (turns_cond false (ids_ok is) _ _ (turns_rebroadcast false w is) refl)
turns encode Call.QueueFeeReadiness = turns_map false false nothing queue_fee_readiness (λ b. turns_offers false ProviderReadiness (filter (λ t. active_entry t.entry && fee_unresolved t.entry) b.submitted))
turns encode (Call.QueueRetainedDelivery i w g) = turns_map false false nothing (queue_retained_delivery i w g) (turns_offered false i w g _ tt)
turns encode Call.Drain = turns_map true false failures drain turns_drain
turns encode (Call.FinalizeAttempt t source j) = turns_map false false finalized (finalize_attempt t source j) (turns_finalize false t source j)
turns encode (Call.FeeIntentForAttempt t) = turns_map false false fee_intent_is (fee_intent_for_attempt t) (turns_live false t _ _ (λ s. tt))
turns encode (Call.AcknowledgeAttempt t) = turns_map false false status_is (acknowledge_attempt t) (turns_acknowledge false t)
turns encode (Call.StopAttempt t) = turns_map false false status_is (stop_attempt t) (turns_live false t _ _ (unfold stop_live in λ s. tt))
turns encode (Call.AbandonAttempt t) = turns_map false false status_is (abandon_attempt t) (turns_live false t _ _ (unfold abandon_live withdraw in λ s. tt))
turns encode (Call.RelinquishCompletedAttempt t) = turns_map false false status_is (relinquish_completed_attempt t) (λ b. turns_relinquish false (find t b))
turns encode (Call.RetainSubmitted is) = turns_map false false ids_are (retain_submitted is) (turns_cond false (ids_ok is) _ _ (λ b. turns_withdraws false _ tt (to_remove is b)) refl)
turns encode (Call.EmitRetirement i) = turns_map false false nothing (emit_retirement i) tt
turns encode Call.DrainRetirements = turns_map false false ids_are drain_retirements (λ b. tt)
turns encode (Call.ReconciliationInputCoins outputs room) = turns_map false true written (reconciliation_input_coins outputs room) (turns_asked (coin_listb outputs) _ (λ b. turns_writing room (encode_coins (input_coins_to_reconcile (coins_in outputs) b))))
turns encode Call.ActiveIds = turns_map false false ids_are active_ids (λ b. tt)
turns encode (Call.BeginReplay h) = turns_map false false flag (begin_replay h) (λ b. turns_cond false (is_at b.rollback h.0) _ _ tt tt)
turns encode (Call.FinishReplayIfAdvanced h) = turns_map false false nothing (finish_replay_if_advanced h) (λ b. turns_cond false (is_before b.rollback h.0) _ _ tt tt)
turns encode Call.ReplayRollbackHeight = turns_map false false height_is replay_rollback_height (λ b. tt)
turns encode (Call.ReconcileChainTerminality observed spent reorg ids) = turns_map false false nothing (reconcile_chain_terminality observed spent reorg ids) (
    turns_cond false (coin_listb observed && id_listb spent && ids_ok ids) _ _ (λ b. turns_judges false (coins_in observed) (ids_in spent) reorg ids b.submitted) refl)
turns encode (Call.CausallyRolledBackIds absent inputs) = turns_map false false ids_are (causally_rolled_back_ids absent inputs) (turns_cond false (coin_listb absent && id_listb inputs) _ _ (λ b. tt) refl)
turns encode (Call.AbsentOutputsForIds is absent room) = turns_map false true written (absent_outputs_for_ids is absent room) (
    turns_asked (ids_ok is && coin_listb absent) _ (λ b. turns_writing room (encode_coins (flat_map (λ t. absentOutputsOf (coins_in absent) t.entry.intent) (filter (λ t. elemb (id_of t) is) b.submitted)))))
turns encode (Call.CollectRollbackReplayIds is) = turns_map false false nothing (collect_rollback_replay_ids is) (turns_collect false is)
turns encode Call.ClearLocalArtifacts = turns_map false false nothing clear_local_artifacts (λ b. turns_withdraws false _ tt (rising (map id_of b.submitted)))
turns encode Call.RestoreRuntime = turns_map false false nothing restore_runtime (λ b. turns_set_asides false (map id_of b.submitted))
turns encode (Call.Attempt t) = turns_map false false attempt_is (attempt t) (λ b. tt)
turns encode (Call.Look i) = turns_map false false look_is (look_at i) (λ b. tt)
turns encode Call.Summary = turns_map false false summary_is summary (λ b. tt)
turns encode (Call.WriteArchive room) = turns_map false true written (write_archive encode room) (λ b. turns_writing room (encode b))

-- how a call's rules turn it away, on any book
pub turned_away_lem : (encode : Book → List ℕ) (c : Call) (b : Book) → TurnedAway (is_drain (kind_of c)) (asks_room (kind_of c)) (run_book (rules encode c) b)
turned_away_lem encode c b = turned_run (is_drain (kind_of c)) (asks_room (kind_of c)) (rules encode c) b (turns encode c)
