-- The last link: a list of calls made on the program's book, from one just opened, leaves and answers what the rules' list does.
use Rattle.std.specs.Prelude.{ℕ, Bool, true, false, cond, List, [], ◌∷◌, ◌≡◌}
use Rattle.std.proofs.Math.Path.{refl, ap}
use Rattle.std.proofs.Common.{sym, ◌∙◌}
use Rattle.book.specs.Model.{Book, view, back}
use Rattle.book.specs.Sound.{soundb}
use Rattle.archive_form.specs.Encode.{encode_model}
use Rattle.rules.specs.Books.{call_book, answer_book, book_after, answers_book}
use Rattle.rules.specs.Call.{Call, Value, failures, finalized, fee_intent_is, status_is, ids_are, flag, height_is, attempt_is, look_is, summary_is, written}
use Rattle.rules.specs.Calls.{rules, nothing}
use Rattle.rules.specs.Calls.AbandonAttempt.{abandon_attempt}
use Rattle.rules.specs.Calls.AbsentOutputsForIds.{absent_outputs_for_ids}
use Rattle.rules.specs.Calls.AcknowledgeAttempt.{acknowledge_attempt}
use Rattle.rules.specs.Calls.ActiveIds.{active_ids}
use Rattle.rules.specs.Calls.Attempt.{attempt}
use Rattle.rules.specs.Calls.CausallyRolledBackIds.{causally_rolled_back_ids}
use Rattle.rules.specs.Calls.ClearLocalArtifacts.{clear_local_artifacts}
use Rattle.rules.specs.Calls.CollectRollbackReplayIds.{collect_rollback_replay_ids}
use Rattle.rules.specs.Calls.Drain.{drain}
use Rattle.rules.specs.Calls.DrainRetirements.{drain_retirements}
use Rattle.rules.specs.Calls.EmitRetirement.{emit_retirement}
use Rattle.rules.specs.Calls.FeeIntentForAttempt.{fee_intent_for_attempt}
use Rattle.rules.specs.Calls.FinalizeAttempt.{finalize_attempt}
use Rattle.rules.specs.Calls.Look.{look_at}
use Rattle.rules.specs.Calls.Queue.{queue}
use Rattle.rules.specs.Calls.QueueFeeReadiness.{queue_fee_readiness}
use Rattle.rules.specs.Calls.QueueRebroadcastEpoch.{queue_rebroadcast_epoch}
use Rattle.rules.specs.Calls.QueueRetainedDelivery.{queue_retained_delivery}
use Rattle.rules.specs.Calls.ReconcileChainTerminality.{reconcile_chain_terminality}
use Rattle.rules.specs.Calls.ReconciliationInputCoins.{reconciliation_input_coins}
use Rattle.rules.specs.Calls.RelinquishCompletedAttempt.{relinquish_completed_attempt}
use Rattle.rules.specs.Calls.Replay.{begin_replay, finish_replay_if_advanced, replay_rollback_height}
use Rattle.rules.specs.Calls.RestoreRuntime.{restore_runtime}
use Rattle.rules.specs.Calls.RetainSubmitted.{retain_submitted}
use Rattle.rules.specs.Calls.StopAttempt.{stop_attempt}
use Rattle.rules.specs.Calls.Summary.{summary}
use Rattle.rules.specs.Calls.WriteArchive.{write_archive}
use Rattle.rules.specs.Opened.{opened}
use Rattle.rules.specs.Rule.{Rule, ◌<$>◌, Outcome, ended, undone, stopped, mapped, run_map, Answer, answered, left}
use Rattle.rules.specs.Steps.{on_book, run_book}
use Rattle.rules_laws.specs.Sound.Run.{sound_call, sound_opened}
use Rattle.rules_ledger.specs.Theorem.{Accounted}
use Rattle.rules_ledger.proofs.Theorem.{ledger_theorem}
use Rattle.part_replies.specs.Reply.{outcome_of, book_left}
use Rattle.part_sound_laws.specs.Holds.{Holds, holds_view, holds_soundb}
use Rattle.submission.specs.declared.SubmissionBook.{SubmissionBook}
use Rattle.submission.specs.Answers.{reply_to, ids_reply_to, attempt_reply_to, written_reply_to, drain_reply_to}
use Rattle.submission.specs.Book.{book_of, outcome, next}
use Rattle.part_door.specs.Door.{sound_open}
use Rattle.book.specs.declared.refusal.Refusal.TheVariants as refusals

-- a method answers by the rules r of its call c, whose answer `rules` makes into a value: it comes to what the call comes to in a list
module _ {A : Type 0} (s : SubmissionBook) (c : Call) (f : A → Value) (r : Rule A) (e : rules encode_model c ≡ f <$> r) where
  behind_door : (t : Bool) → cond t (run_book (f <$> r) (view s.parts)) (undone refusals.NoBook) ≡ mapped f (cond t (run_book r (view s.parts)) (undone refusals.NoBook))
  behind_door true = run_map (λ b. b) on_book f r (view s.parts)
  behind_door false = refl

  pub outcome_is_rules : outcome s c ≡ mapped f (outcome_of s.parts r)
  unfolding outcome outcome_of
  outcome_is_rules = ap (outcome_of s.parts) e ∙ behind_door (soundb s.parts)

  book_is_next : book_of (book_left s.parts (outcome_of s.parts r)) ≡ next s c
  unfolding next
  book_is_next = ap book_of (sym (ap (book_left s.parts) outcome_is_rules ∙ go (outcome_of s.parts r)))
    where
      go : (o : Outcome Book A) → book_left s.parts (mapped f o) ≡ book_left s.parts o
      go (ended m xs a) = refl
      go (undone n) = refl
      go (stopped m xs n) = refl

-- the book in the answer of each method, by the method's contract
abbrev pub answered_book : SubmissionBook → Call → SubmissionBook
answered_book s (Call.Queue d) = (reply_to s (queue d)).book
answered_book s (Call.QueueRebroadcastEpoch is trigger) = (reply_to s (queue_rebroadcast_epoch is trigger)).book
answered_book s Call.QueueFeeReadiness = (reply_to s queue_fee_readiness).book
answered_book s (Call.QueueRetainedDelivery i trigger g) = (reply_to s (queue_retained_delivery i trigger g)).book
answered_book s Call.Drain = (drain_reply_to s drain).book
answered_book s (Call.FinalizeAttempt t source j) = (reply_to s (finalize_attempt t source j)).book
answered_book s (Call.FeeIntentForAttempt t) = (reply_to s (fee_intent_for_attempt t)).book
answered_book s (Call.AcknowledgeAttempt t) = (reply_to s (acknowledge_attempt t)).book
answered_book s (Call.StopAttempt t) = (reply_to s (stop_attempt t)).book
answered_book s (Call.AbandonAttempt t) = (reply_to s (abandon_attempt t)).book
answered_book s (Call.RelinquishCompletedAttempt t) = (reply_to s (relinquish_completed_attempt t)).book
answered_book s (Call.RetainSubmitted is) = (ids_reply_to s (retain_submitted is)).book
answered_book s (Call.EmitRetirement i) = (reply_to s (emit_retirement i)).book
answered_book s Call.DrainRetirements = (ids_reply_to s drain_retirements).book
answered_book s (Call.ReconciliationInputCoins outputs room) = (written_reply_to s (reconciliation_input_coins outputs room)).book
answered_book s Call.ActiveIds = (ids_reply_to s active_ids).book
answered_book s (Call.BeginReplay h) = (reply_to s (begin_replay h)).book
answered_book s (Call.FinishReplayIfAdvanced h) = (reply_to s (finish_replay_if_advanced h)).book
answered_book s Call.ReplayRollbackHeight = (reply_to s replay_rollback_height).book
answered_book s (Call.ReconcileChainTerminality observed spent reorg back) = (reply_to s (reconcile_chain_terminality observed spent reorg back)).book
answered_book s (Call.CausallyRolledBackIds absent inputs) = (ids_reply_to s (causally_rolled_back_ids absent inputs)).book
answered_book s (Call.AbsentOutputsForIds is absent room) = (written_reply_to s (absent_outputs_for_ids is absent room)).book
answered_book s (Call.CollectRollbackReplayIds is) = (reply_to s (collect_rollback_replay_ids is)).book
answered_book s Call.ClearLocalArtifacts = (reply_to s clear_local_artifacts).book
answered_book s Call.RestoreRuntime = (reply_to s restore_runtime).book
answered_book s (Call.Attempt t) = (attempt_reply_to s (attempt t)).book
answered_book s (Call.Look i) = (reply_to s (look_at i)).book
answered_book s Call.Summary = (reply_to s summary).book
answered_book s (Call.WriteArchive room) = (written_reply_to s (write_archive encode_model room)).book

-- it is `next` of the method's call
pub answered_next : (s : SubmissionBook) (c : Call) → answered_book s c ≡ next s c
unfolding rules
answered_next s (Call.Queue d) = book_is_next s (Call.Queue d) nothing (queue d) refl
answered_next s (Call.QueueRebroadcastEpoch is trigger) = book_is_next s (Call.QueueRebroadcastEpoch is trigger) nothing (queue_rebroadcast_epoch is trigger) refl
answered_next s Call.QueueFeeReadiness = book_is_next s Call.QueueFeeReadiness nothing queue_fee_readiness refl
answered_next s (Call.QueueRetainedDelivery i trigger g) = book_is_next s (Call.QueueRetainedDelivery i trigger g) nothing (queue_retained_delivery i trigger g) refl
answered_next s Call.Drain = book_is_next s Call.Drain failures drain refl
answered_next s (Call.FinalizeAttempt t source j) = book_is_next s (Call.FinalizeAttempt t source j) finalized (finalize_attempt t source j) refl
answered_next s (Call.FeeIntentForAttempt t) = book_is_next s (Call.FeeIntentForAttempt t) fee_intent_is (fee_intent_for_attempt t) refl
answered_next s (Call.AcknowledgeAttempt t) = book_is_next s (Call.AcknowledgeAttempt t) status_is (acknowledge_attempt t) refl
answered_next s (Call.StopAttempt t) = book_is_next s (Call.StopAttempt t) status_is (stop_attempt t) refl
answered_next s (Call.AbandonAttempt t) = book_is_next s (Call.AbandonAttempt t) status_is (abandon_attempt t) refl
answered_next s (Call.RelinquishCompletedAttempt t) = book_is_next s (Call.RelinquishCompletedAttempt t) status_is (relinquish_completed_attempt t) refl
answered_next s (Call.RetainSubmitted is) = book_is_next s (Call.RetainSubmitted is) ids_are (retain_submitted is) refl
answered_next s (Call.EmitRetirement i) = book_is_next s (Call.EmitRetirement i) nothing (emit_retirement i) refl
answered_next s Call.DrainRetirements = book_is_next s Call.DrainRetirements ids_are drain_retirements refl
answered_next s (Call.ReconciliationInputCoins outputs room) = book_is_next s (Call.ReconciliationInputCoins outputs room) written (reconciliation_input_coins outputs room) refl
answered_next s Call.ActiveIds = book_is_next s Call.ActiveIds ids_are active_ids refl
answered_next s (Call.BeginReplay h) = book_is_next s (Call.BeginReplay h) flag (begin_replay h) refl
answered_next s (Call.FinishReplayIfAdvanced h) = book_is_next s (Call.FinishReplayIfAdvanced h) nothing (finish_replay_if_advanced h) refl
answered_next s Call.ReplayRollbackHeight = book_is_next s Call.ReplayRollbackHeight height_is replay_rollback_height refl
answered_next s (Call.ReconcileChainTerminality observed spent reorg back) = book_is_next s (Call.ReconcileChainTerminality observed spent reorg back) nothing (reconcile_chain_terminality observed spent reorg back) refl
answered_next s (Call.CausallyRolledBackIds absent inputs) = book_is_next s (Call.CausallyRolledBackIds absent inputs) ids_are (causally_rolled_back_ids absent inputs) refl
answered_next s (Call.AbsentOutputsForIds is absent room) = book_is_next s (Call.AbsentOutputsForIds is absent room) written (absent_outputs_for_ids is absent room) refl
answered_next s (Call.CollectRollbackReplayIds is) = book_is_next s (Call.CollectRollbackReplayIds is) nothing (collect_rollback_replay_ids is) refl
answered_next s Call.ClearLocalArtifacts = book_is_next s Call.ClearLocalArtifacts nothing clear_local_artifacts refl
answered_next s Call.RestoreRuntime = book_is_next s Call.RestoreRuntime nothing restore_runtime refl
answered_next s (Call.Attempt t) = book_is_next s (Call.Attempt t) attempt_is (attempt t) refl
answered_next s (Call.Look i) = book_is_next s (Call.Look i) look_is (look_at i) refl
answered_next s Call.Summary = book_is_next s Call.Summary summary_is summary refl
answered_next s (Call.WriteArchive room) = book_is_next s (Call.WriteArchive room) written (write_archive encode_model room) refl

-- the book of the program after a list of calls, each made by its method on the book that the last one left
unfoldable pub after : List Call → SubmissionBook → SubmissionBook
unfolding next
after [] s = s
after (c ∷ cs) s = after cs (next s c)

-- what the calls of the list answer, one after the other
unfoldable pub answers : List Call → SubmissionBook → List (Answer Value)
unfolding next outcome
answers [] s = []
answers (c ∷ cs) s = answered (outcome s c) ∷ answers cs (next s c)

-- the cells hold the sound lists m
module _ (s : SubmissionBook) (m : Book) (h : Holds s.parts m) where
  outcome_is : (c : Call) → outcome s c ≡ run_book (rules encode_model c) m
  unfolding outcome
  outcome_is c = sound_open s.parts (rules encode_model c) (holds_soundb h) ∙ ap (run_book (rules encode_model c)) (holds_view h)

  next_holds : (c : Call) → Holds (next s c).parts (call_book encode_model c m)
  unfolding next call_book
  next_holds c = record {
    cells = ap (book_left s.parts) (outcome_is c) ∙ go (run_book (rules encode_model c) m);
    sound = sound_call encode_model c m h.sound;
  }
    where
      go : (o : Outcome Book Value) → book_left s.parts o ≡ back (left m o)
      go (ended n xs v) = refl
      go (undone n) = h.cells
      go (stopped n xs k) = refl

after_holds : (cs : List Call) (s : SubmissionBook) (m : Book) → Holds s.parts m → Holds (after cs s).parts (book_after encode_model cs m)
unfolding after book_after
after_holds [] s m h = h
after_holds (c ∷ cs) s m h = after_holds cs (next s c) (call_book encode_model c m) (next_holds s m h c)

answers_are : (cs : List Call) (s : SubmissionBook) (m : Book) → Holds s.parts m → answers cs s ≡ answers_book encode_model cs m
unfolding answers answers_book answer_book
answers_are [] s m h = refl
answers_are (c ∷ cs) s m h =
    ap (λ (o : Outcome Book Value). answered o ∷ answers cs (next s c)) (outcome_is s m h c)
    ∙ ap (λ (rest : List (Answer Value)). answered (run_book (rules encode_model c) m) ∷ rest) (answers_are cs (next s c) (call_book encode_model c m) (next_holds s m h c))

-- the book that `open` answers
abbrev pub opened_book : ℕ → ℕ → SubmissionBook
opened_book token id = book_of (back (opened token id))

opened_holds : (token id : ℕ) → Holds (opened_book token id).parts (opened token id)
opened_holds token id = record { cells = refl; sound = sound_opened token id }

-- the outcome of a call on the book that a list of calls left
pub outcome_after : (token id : ℕ) (calls : List Call) (c : Call)
    → outcome (after calls (opened_book token id)) c ≡ run_book (rules encode_model c) (book_after encode_model calls (opened token id))
outcome_after token id calls c =
    outcome_is (after calls (opened_book token id)) (book_after encode_model calls (opened token id)) (after_holds calls (opened_book token id) (opened token id) (opened_holds token id)) c

-- what holds of the program's book and answers after a list of calls
pub record Linked (token id : ℕ) (calls : List Call) : Type 0 where
  -- the book holds the lists of the rules' book
  pub book : view (after calls (opened_book token id)).parts ≡ book_after encode_model calls (opened token id)
  -- and nothing else: its other cells are zero
  pub cells : (after calls (opened_book token id)).parts ≡ back (book_after encode_model calls (opened token id))
  -- every call is answered as the rules say
  pub answered : answers calls (opened_book token id) ≡ answers_book encode_model calls (opened token id)
  -- and the next call meets a sound book
  pub sound : soundb (after calls (opened_book token id)).parts ≡ true
  -- demand 3
  pub ledger : Accounted encode_model token id calls

pub last_link : (token id : ℕ) (calls : List Call) → Linked token id calls
last_link token id calls =
    let h = after_holds calls (opened_book token id) (opened token id) (opened_holds token id) in
    record {
      book = holds_view h;
      cells = h.cells;
      answered = answers_are calls (opened_book token id) (opened token id) (opened_holds token id);
      sound = holds_soundb h;
      ledger = ledger_theorem encode_model token id calls;
    }
