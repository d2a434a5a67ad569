-- Buffers of the header's sizes are enough: on a sound book within the program's types, and with arguments within theirs, the answer of
-- every call fits, and no call is refused 12.
use Rattle.std.specs.Prelude.{ℕ, ◌≤◌, ◌≡◌, Bool, true, false, cond, ◌&&◌, List, [], length, eqb}
use Rattle.std.proofs.Math.Path.{refl}
use Rattle.std.proofs.Common.{sym, ap, ◌∙◌, subst, arith, le-leb}
use Rattle.std.proofs.lemmas.Bool.{false≢true}
use Rattle.std.specs.Prelude.{Option, None, Some}
use Rattle.base_lists.specs.Laws.{or-false}
use Rattle.base_lists.specs.Lists.{elemb}
use Rattle.std.specs.List.{filter, flat_map}
use Rattle.base_coin_string.specs.CoinList.{coins_in, coin_listb}
use Rattle.book.specs.Model.{Book}
use Rattle.book.specs.Sound.{id_of}
use Rattle.archive_form.specs.Encode.{encode_model}
use Rattle.rules.specs.Call.{Call, Value}
use Rattle.rules.specs.Calls.{rules}
use Rattle.rules.specs.CoinLists.{encode_coins}
use Rattle.rules.specs.Doors.{ids_ok}
use Rattle.rules.specs.Rule.{Rule, done, undo, look, Outcome, ended, undone, stopped, run, ◌<$>◌, mapped, run_map}
use Rattle.rules.specs.Steps.{run_book, on_book}
use Rattle.rules.specs.Calls.Common.{writing}
use Rattle.rules.specs.Calls.AbsentOutputsForIds.{absent_outputs as absentOutputsOf, absent_outputs_for_ids}
use Rattle.rules.specs.Calls.ReconciliationInputCoins.{input_coins_to_reconcile, reconciliation_input_coins}
use Rattle.rules_laws.specs.Sound.Run.{SoundBook}
use Rattle.rules_typed.specs.Calls.{typed_drain}
use Rattle.rules_typed.specs.Theorems.{typed_model}
use Rattle.rules_typed.specs.Typing.{Within, TypedCall}
use Rattle.rules_answers.specs.Kind.{kind_of, answer_bytes, Roomy, is_drain, asks_room}
use Rattle.rules_answers.specs.Turned.{TurnedAway}
use Rattle.rules_answers.proofs.Turned.{turned_away_lem}
use Rattle.rules_answers.specs.Said.{Says, SaidIn, DrainSays, drain_says, IssuedIn, issued_typed, FinalSays, no_final, one_final, FeeIntentSays, no_intent, one_intent, AttemptSays, no_attempt, one_attempt, IdsSay, ids_say, final_says, fee_intent_says, attempt_says, retain_says, retirements_say, active_say, rolled_back_say}
use Rattle.rules_answers.proofs.Said.{says_run, drain_few}
use Rattle.rules_answers.specs.Coins.{inputs_size, outputs_size}
use Rattle.c_boundary.specs.Held.{held_in}
use Rattle.c_boundary.specs.Settle.{Form, boundary}
use Rattle.c_boundary.specs.Forms.{no_form, ids_form, attempt_form, fee_intent_form, final_form, drain_form, bytes_form, value_form, ToldAs, as_nothing, as_status, as_ids, as_flag, as_height, as_attempt, as_look, as_summary, as_fee_intent, as_final, as_drained, as_bytes}
use Rattle.c_boundary_laws.specs.Enough.{AnswerFits, number_by, book_length, enough, typed_call_enough, status_enough, flag_enough, height_enough, ids_enough, attempt_enough, look_enough, summary_enough, fee_intent_enough, final_enough, drain_enough}
use Rattle.book.specs.declared.DeliveryAttempt.{DeliveryAttempt}
use Rattle.book.specs.declared.SubmissionFeeIntent.{SubmissionFeeIntent}
use Rattle.book_answers.specs.declared.SubmissionDrainFailure.{SubmissionDrainFailure}
use Rattle.book_answers.specs.declared.FinalizedSubmission.{FinalizedSubmission}
use Rattle.book_answers.specs.declared.DrainedSubmission.{DrainedSubmission}
use Rattle.rules.specs.Calls.Queue.{queue}
use Rattle.rules.specs.Calls.QueueRebroadcastEpoch.{queue_rebroadcast_epoch}
use Rattle.rules.specs.Calls.QueueFeeReadiness.{queue_fee_readiness}
use Rattle.rules.specs.Calls.QueueRetainedDelivery.{queue_retained_delivery}
use Rattle.rules.specs.Calls.Drain.{drain}
use Rattle.rules.specs.Calls.FinalizeAttempt.{finalize_attempt}
use Rattle.rules.specs.Calls.FeeIntentForAttempt.{fee_intent_for_attempt}
use Rattle.rules.specs.Calls.AcknowledgeAttempt.{acknowledge_attempt}
use Rattle.rules.specs.Calls.StopAttempt.{stop_attempt}
use Rattle.rules.specs.Calls.AbandonAttempt.{abandon_attempt}
use Rattle.rules.specs.Calls.RelinquishCompletedAttempt.{relinquish_completed_attempt}
use Rattle.rules.specs.Calls.RetainSubmitted.{retain_submitted}
use Rattle.rules.specs.Calls.EmitRetirement.{emit_retirement}
use Rattle.rules.specs.Calls.DrainRetirements.{drain_retirements}
use Rattle.rules.specs.Calls.ActiveIds.{active_ids}
use Rattle.rules.specs.Calls.Replay.{begin_replay, finish_replay_if_advanced, replay_rollback_height}
use Rattle.rules.specs.Calls.ReconcileChainTerminality.{reconcile_chain_terminality}
use Rattle.rules.specs.Calls.CausallyRolledBackIds.{causally_rolled_back_ids}
use Rattle.rules.specs.Calls.CollectRollbackReplayIds.{collect_rollback_replay_ids}
use Rattle.rules.specs.Calls.ClearLocalArtifacts.{clear_local_artifacts}
use Rattle.rules.specs.Calls.RestoreRuntime.{restore_runtime}
use Rattle.rules.specs.Calls.Attempt.{attempt}
use Rattle.rules.specs.Calls.Look.{look_at}
use Rattle.rules.specs.Calls.Summary.{summary}
use Rattle.rules.specs.Calls.WriteArchive.{write_archive}
use Rattle.book.specs.Refusals as refusals
use Rattle.book.specs.Refusals.{refusal_number}
use Rattle.book.specs.declared.refusal.Refusal.TheVariants as turned

-- ---- answers that always fit, and answers that fit by what they say
abbrev Always : {A : Type 0} → Form A → ℕ → Type 0
Always {A} form k = (xs : List DrainedSubmission) (v : A) → length (form xs v) ≤ k

always_fits : {A : Type 0} (form : Form A) (k : ℕ) → Always form k → (o : Outcome Book A) → AnswerFits form k o
always_fits form k h (ended m xs v) = h xs v
always_fits form k h (undone n) = tt
always_fits form k h (stopped m xs n) = tt

said_fits : {A : Type 0} (form : Form A) (k : ℕ) (P : ℕ → A → Type 0) → ((n : ℕ) (xs : List DrainedSubmission) (v : A) → P n v → length (form xs v) ≤ k) → (o : Outcome Book A) → SaidIn P 0 o → AnswerFits form k o
said_fits form k P h (ended m xs v) s = h s.0 xs v s.1.0
said_fits form k P h (undone n) s = tt
said_fits form k P h (stopped m xs n) s = tt

final_fits : (n : ℕ) (xs : List DrainedSubmission) (v : Option FinalizedSubmission) → FinalSays n v → length (final_form xs v) ≤ 1117
final_fits n xs v no_final = final_enough xs None tt
final_fits n xs v (one_final f t) = final_enough xs (Some f) t

fee_intent_fits : (n : ℕ) (xs : List DrainedSubmission) (v : Option SubmissionFeeIntent) → FeeIntentSays n v → length (fee_intent_form xs v) ≤ 42
fee_intent_fits n xs v no_intent = fee_intent_enough xs None tt
fee_intent_fits n xs v (one_intent f t) = fee_intent_enough xs (Some f) t

attempt_fits : (n : ℕ) (xs : List DrainedSubmission) (v : Option DeliveryAttempt) → AttemptSays n v → length (attempt_form xs v) ≤ 75
attempt_fits n xs v no_attempt = attempt_enough xs None tt
attempt_fits n xs v (one_attempt a t) = attempt_enough xs (Some a) t

ids_fit : (n : ℕ) (xs : List DrainedSubmission) (v : List ℕ) → IdsSay n v → length (ids_form xs v) ≤ 513
ids_fit n xs v (ids_say is h) = ids_enough xs is h

drain_fits : (o : Outcome Book (List SubmissionDrainFailure)) → SaidIn DrainSays 0 o → IssuedIn o → AnswerFits drain_form 19330 o
drain_fits (ended m xs v) s t = go s.0 v s.1.0 (omega (arith, s.1.1))
  where
    go : (n : ℕ) (v : List SubmissionDrainFailure) → DrainSays n v → length xs ≤ n → length (drain_form xs v) ≤ 19330
    go n v (drain_says fs a b c) h = drain_enough xs fs (omega arith) t b c
drain_fits (undone n) s t = tt
drain_fits (stopped m xs n) s t = tt

-- ---- calls that write by themselves: whole where there is room
writes : (m : Book) (room k : ℕ) (s : List ℕ) → k ≤ room → length s ≤ k → run_book (writing room s) m ≡ ended m [] s
unfolding writing run
writes m room k s h g = ap (λ (t : Bool). run_book (cond t (done s) (undo turned.ShortBuffer)) m) (le-leb (length s) room (omega arith))

-- what is owed of an outcome: the answer fits, and the rules do not refuse 12
pub record Fitting {A : Type 0} (form : Form A) (k : ℕ) (o : Outcome Book A) : Type 0 where
  pub answer : AnswerFits form k o
  pub number : number_by o ≡ refusals.short_buffer → ⊥

written_fits : (m : Book) (room k : ℕ) (s : List ℕ) → k ≤ room → length s ≤ k → Fitting bytes_form k (run_book (writing room s) m)
written_fits m room k s h g = subst (Fitting bytes_form k) (sym (writes m room k s h g)) (record { answer = g; number = λ e. absurd (omega arith) })

asked_fits : (k : ℕ) (f : Book → Rule (List ℕ)) (m : Book) → Fitting bytes_form k (run_book (f m) m) → (t : Bool) → Fitting bytes_form k (run_book (cond t (look f) (undo turned.BadList)) m)
unfolding run
asked_fits k f m h true = h
asked_fits k f m h false = record { answer = tt; number = λ e. absurd (omega arith) }

-- ---- every call
not_twelve : {A : Type 0} (d : Bool) (o : Outcome Book A) → TurnedAway d false o → number_by o ≡ refusals.short_buffer → ⊥
not_twelve d (ended m xs v) h e = omega arith
not_twelve d (undone n) h e = false≢true (sym (or-false (eqb (refusal_number n) 0) (eqb (refusal_number n) refusals.short_buffer) h).1 ∙ ap (λ (x : ℕ). eqb x refusals.short_buffer) e)
not_twelve d (stopped m xs n) h e = let q = ap refusal_number h.1 in omega (arith, q, e)

-- of rules with their answer made into a value
mapped_fits : {A : Type 0} (t : ToldAs A) (k : ℕ) (o : Outcome Book A) → AnswerFits t.form k o → AnswerFits value_form k (mapped t.value o)
mapped_fits t k (ended m xs v) h = omega (arith, h, ap length (t.same xs v))
mapped_fits t k (undone n) h = tt
mapped_fits t k (stopped m xs n) h = tt

mapped_number : {A B : Type 0} (f : A → B) (o : Outcome Book A) → number_by (mapped f o) ≡ number_by o
mapped_number f (ended m xs v) = refl
mapped_number f (undone n) = refl
mapped_number f (stopped m xs n) = refl

mapped_fitting : {A : Type 0} (t : ToldAs A) (k : ℕ) (r : Rule A) (m : Book) → Fitting t.form k (run_book r m) → Fitting value_form k (run_book (t.value <$> r) m)
mapped_fitting t k r m h =
    subst (Fitting value_form k) (sym (run_map (λ b. b) on_book t.value r m))
    (record { answer = mapped_fits t k (run_book r m) h.answer; number = λ e. h.number (sym (mapped_number t.value (run_book r m)) ∙ e) })

module _ (m : Book) (s : SoundBook m) (w : Within m) where
  -- the rules r of the call c, which have no refusal 12 of their own
  said : {A : Type 0} (c : Call) → asks_room (kind_of c) ≡ false → (t : ToldAs A) (r : Rule A) → rules encode_model c ≡ t.value <$> r
      → AnswerFits t.form (answer_bytes (kind_of c)) (run_book r m) → Fitting value_form (answer_bytes (kind_of c)) (run_book (rules encode_model c) m)
  said c e t r q a = record {
    answer = subst (AnswerFits value_form (answer_bytes (kind_of c))) (sym (ap (λ x. run_book x m) q ∙ run_map (λ b. b) on_book t.value r m)) (mapped_fits t (answer_bytes (kind_of c)) (run_book r m) a);
    number = not_twelve (is_drain (kind_of c)) (run_book (rules encode_model c) m) (subst (λ (x : Bool). TurnedAway (is_drain (kind_of c)) x (run_book (rules encode_model c) m)) e (turned_away_lem encode_model c m));
  }

  always : {A : Type 0} (c : Call) → asks_room (kind_of c) ≡ false → (t : ToldAs A) (r : Rule A) → rules encode_model c ≡ t.value <$> r
      → Always t.form (answer_bytes (kind_of c)) → Fitting value_form (answer_bytes (kind_of c)) (run_book (rules encode_model c) m)
  always c e t r q h = said c e t r q (always_fits t.form (answer_bytes (kind_of c)) h (run_book r m))

  saying : {A : Type 0} (c : Call) → asks_room (kind_of c) ≡ false → (t : ToldAs A) (r : Rule A) → rules encode_model c ≡ t.value <$> r → (P : ℕ → A → Type 0)
      → ((n : ℕ) (xs : List DrainedSubmission) (v : A) → P n v → length (t.form xs v) ≤ answer_bytes (kind_of c))
      → Says P 0 m r → Fitting value_form (answer_bytes (kind_of c)) (run_book (rules encode_model c) m)
  saying c e t r q P h g = said c e t r q (said_fits t.form (answer_bytes (kind_of c)) P h (run_book r m) (says_run P 0 r m g))

  silent : {A : Type 0} (xs : List DrainedSubmission) (v : A) → length (no_form xs v) ≤ 0
  silent xs v = omega arith

  -- the answer of every call fits the header's size, and 12 is not among its refusals
  pub fits : (c : Call) → TypedCall c → Roomy (kind_of c) → Fitting value_form (answer_bytes (kind_of c)) (run_book (rules encode_model c) m)
  unfolding rules
  fits (Call.Queue d) t r = always (Call.Queue d) refl as_nothing (queue d) refl silent
  fits (Call.QueueRebroadcastEpoch is x) t r = always (Call.QueueRebroadcastEpoch is x) refl as_nothing (queue_rebroadcast_epoch is x) refl silent
  fits Call.QueueFeeReadiness t r = always Call.QueueFeeReadiness refl as_nothing queue_fee_readiness refl silent
  fits (Call.QueueRetainedDelivery i x g) t r = always (Call.QueueRetainedDelivery i x g) refl as_nothing (queue_retained_delivery i x g) refl silent
  fits Call.Drain t r =
      said Call.Drain refl as_drained drain refl
      (drain_fits (run_book drain m) (says_run DrainSays 0 drain m (drain_few m s.fits.pending)) (issued_typed _ drain m w (typed_drain m w)))
  fits (Call.FinalizeAttempt k x j) t r = saying (Call.FinalizeAttempt k x j) refl as_final (finalize_attempt k x j) refl FinalSays final_fits (final_says m w k x j t)
  fits (Call.FeeIntentForAttempt k) t r = saying (Call.FeeIntentForAttempt k) refl as_fee_intent (fee_intent_for_attempt k) refl FeeIntentSays fee_intent_fits (fee_intent_says m w k)
  fits (Call.AcknowledgeAttempt k) t r = always (Call.AcknowledgeAttempt k) refl as_status (acknowledge_attempt k) refl status_enough
  fits (Call.StopAttempt k) t r = always (Call.StopAttempt k) refl as_status (stop_attempt k) refl status_enough
  fits (Call.AbandonAttempt k) t r = always (Call.AbandonAttempt k) refl as_status (abandon_attempt k) refl status_enough
  fits (Call.RelinquishCompletedAttempt k) t r = always (Call.RelinquishCompletedAttempt k) refl as_status (relinquish_completed_attempt k) refl status_enough
  fits (Call.RetainSubmitted is) t r = saying (Call.RetainSubmitted is) refl as_ids (retain_submitted is) refl IdsSay ids_fit (retain_says m s is)
  fits (Call.EmitRetirement i) t r = always (Call.EmitRetirement i) refl as_nothing (emit_retirement i) refl silent
  fits Call.DrainRetirements t r = saying Call.DrainRetirements refl as_ids drain_retirements refl IdsSay ids_fit (retirements_say m s)
  fits (Call.ReconciliationInputCoins outputs room) t r =
      mapped_fitting as_bytes 4738 (reconciliation_input_coins outputs room) m
      (asked_fits 4738 _ m (written_fits m room 4738 (encode_coins (input_coins_to_reconcile (coins_in outputs) m)) r (inputs_size m s w (coins_in outputs))) (coin_listb outputs))
  fits Call.ActiveIds t r = saying Call.ActiveIds refl as_ids active_ids refl IdsSay ids_fit (active_say m s)
  fits (Call.BeginReplay h) t r = always (Call.BeginReplay h) refl as_flag (begin_replay h) refl flag_enough
  fits (Call.FinishReplayIfAdvanced h) t r = always (Call.FinishReplayIfAdvanced h) refl as_nothing (finish_replay_if_advanced h) refl silent
  fits Call.ReplayRollbackHeight t r = always Call.ReplayRollbackHeight refl as_height replay_rollback_height refl height_enough
  fits (Call.ReconcileChainTerminality observed spent reorg is) t r = always (Call.ReconcileChainTerminality observed spent reorg is) refl as_nothing (reconcile_chain_terminality observed spent reorg is) refl silent
  fits (Call.CausallyRolledBackIds absent inputs) t r = saying (Call.CausallyRolledBackIds absent inputs) refl as_ids (causally_rolled_back_ids absent inputs) refl IdsSay ids_fit (rolled_back_say m s absent inputs)
  fits (Call.AbsentOutputsForIds is absent room) t r =
      mapped_fitting as_bytes 18946 (absent_outputs_for_ids is absent room) m
      (asked_fits 18946 _ m
      (written_fits m room 18946 (encode_coins (flat_map (λ x. absentOutputsOf (coins_in absent) x.entry.intent) (filter (λ x. elemb (id_of x) is) m.submitted))) r
      (outputs_size m s w is (coins_in absent))) (ids_ok is && coin_listb absent))
  fits (Call.CollectRollbackReplayIds is) t r = always (Call.CollectRollbackReplayIds is) refl as_nothing (collect_rollback_replay_ids is) refl silent
  fits Call.ClearLocalArtifacts t r = always Call.ClearLocalArtifacts refl as_nothing clear_local_artifacts refl silent
  fits Call.RestoreRuntime t r = always Call.RestoreRuntime refl as_nothing restore_runtime refl silent
  fits (Call.Attempt k) t r = saying (Call.Attempt k) refl as_attempt (attempt k) refl AttemptSays attempt_fits (attempt_says m w k)
  fits (Call.Look i) t r = always (Call.Look i) refl as_look (look_at i) refl look_enough
  fits Call.Summary t r = always Call.Summary refl as_summary summary refl summary_enough
  fits (Call.WriteArchive room) t r =
      mapped_fitting as_bytes 57694 (write_archive encode_model room) m
      (unfold run in written_fits m room 57694 (encode_model m) r (omega (arith, book_length m, enough m (typed_model m w s))))

-- on lent bytes: with 57,702 bytes for the book and the header's size for the answer, the number is the rules' own, and not 12
pub header_enough : (d a : List ℕ) (m : Book) → held_in d ≡ Some m → SoundBook m → Within m → (c : Call) → TypedCall c → 57702 ≤ length d → answer_bytes (kind_of c) ≤ length a → Roomy (kind_of c)
    → ((boundary value_form (rules encode_model c) d a).number ≡ number_by (run_book (rules encode_model c) m)) × ((boundary value_form (rules encode_model c) d a).number ≡ refusals.short_buffer → ⊥)
header_enough d a m e s w c t h k r =
    let f = fits m s w c t r in
    let n = typed_call_enough value_form d a h c m e s w t (within_room value_form (run_book (rules encode_model c) m) f.answer) in
    (n, λ q. f.number (sym n ∙ q))
  where
    within_room : (form : Form Value) (o : Outcome Book Value) → AnswerFits form (answer_bytes (kind_of c)) o → AnswerFits form (length a) o
    within_room form (ended x xs v) g = omega (arith, g)
    within_room form (undone n) g = tt
    within_room form (stopped x xs n) g = tt
