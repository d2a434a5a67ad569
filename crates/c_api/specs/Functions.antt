-- The functions of the library, with their arguments as C hands them over, and their contracts: 29 calls on a lent book (`Did`), opening
-- (`OpenDid`), reading an archive (`ReadDid`), and two without a book (`Sha256Did`, `CoinIdDid`).
use Rattle.std.specs.Prelude.{ℕ, ◌&&◌, List, [], length}
use Rattle.base_coin_string.specs.CoinIds.{id_listb}
use Rattle.base_coin_string.specs.CoinList.{coin_listb}
use Rattle.archive_form.specs.Parse.{read_archive, parse_delivery, parse_trigger, parse_goal}
use Rattle.rules.specs.Calls.AbandonAttempt.{abandon_attempt}
use Rattle.rules.specs.Calls.AbsentOutputsForIds.{absent_outputs_for_ids}
use Rattle.rules.specs.Calls.AcknowledgeAttempt.{acknowledge_attempt}
use Rattle.rules.specs.Calls.ActiveIds.{active_ids}
use Rattle.rules.specs.Calls.Attempt.{attempt}
use Rattle.rules.specs.Calls.CausallyRolledBackIds.{causally_rolled_back_ids}
use Rattle.rules.specs.Calls.ClearLocalArtifacts.{clear_local_artifacts}
use Rattle.rules.specs.Calls.CollectRollbackReplayIds.{collect_rollback_replay_ids}
use Rattle.rules.specs.Calls.Drain.{drain}
use Rattle.rules.specs.Calls.DrainRetirements.{drain_retirements}
use Rattle.rules.specs.Calls.EmitRetirement.{emit_retirement}
use Rattle.rules.specs.Calls.FeeIntentForAttempt.{fee_intent_for_attempt}
use Rattle.rules.specs.Calls.FinalizeAttempt.{finalize_attempt}
use Rattle.rules.specs.Calls.Look.{look_at}
use Rattle.rules.specs.Calls.Queue.{queue}
use Rattle.rules.specs.Calls.QueueFeeReadiness.{queue_fee_readiness}
use Rattle.rules.specs.Calls.QueueRebroadcastEpoch.{queue_rebroadcast_epoch}
use Rattle.rules.specs.Calls.QueueRetainedDelivery.{queue_retained_delivery}
use Rattle.rules.specs.Calls.ReconcileChainTerminality.{reconcile_chain_terminality}
use Rattle.rules.specs.Calls.ReconciliationInputCoins.{reconciliation_input_coins}
use Rattle.rules.specs.Calls.RelinquishCompletedAttempt.{relinquish_completed_attempt}
use Rattle.rules.specs.Calls.Replay.{begin_replay, finish_replay_if_advanced, replay_rollback_height}
use Rattle.rules.specs.Calls.RestoreRuntime.{restore_runtime}
use Rattle.rules.specs.Calls.RetainSubmitted.{retain_submitted}
use Rattle.rules.specs.Calls.StopAttempt.{stop_attempt}
use Rattle.rules.specs.Calls.Summary.{summary}
use Rattle.rules.specs.Doors.{ids_ok}
use Rattle.rules.specs.Opened.{opened}
use Rattle.c_answer.specs.Answer.{GivesAnswer, digest_in, coin_id_in}
use Rattle.c_boundary.specs.Held.{held_in}
use Rattle.c_boundary.specs.Settle.{written, boundary, Gives, GivesBook}
use Rattle.c_boundary.specs.Forms.{no_form, status_form, flag_form, height_form, ids_form, attempt_form, look_form, summary_form, fee_intent_form, final_form, drain_form, bytes_form}
use Rattle.c_boundary.specs.Arguments.{given, listed, byte_as, bytes_as, flag_in}
use Rattle.c_calls_attempts.specs.Source.{source_in, joined_in}
use Rattle.c_calls_chain.specs.Quiet.{GivesBytes, length_of}
use Rattle.c_whole.specs.Whole.{GivesLength, write_from, GivesPlace, read_into}

-- a call of the library, `submission_book_…`. Runs of bytes and of ids are lists of numbers; `answer` and `archive` are the bytes lent for
-- the answer, and the number behind them is the one lent for its length. The book is lent besides
pub data CCall : Type 0 where
  Queue : (delivery : List ℕ) → CCall
  QueueRetainedDelivery : (id trigger goal : ℕ) → CCall
  QueueRebroadcastEpoch : (ids : List ℕ) → (trigger : ℕ) → CCall
  QueueFeeReadiness : CCall
  Drain : (answer : List ℕ) → CCall
  FeeIntentForAttempt AcknowledgeAttempt StopAttempt AbandonAttempt RelinquishCompletedAttempt Attempt : (token : ℕ) → (answer : List ℕ) → CCall
  FinalizeAttempt : (token source : ℕ) → (joined answer : List ℕ) → CCall
  RetainSubmitted : (removed answer : List ℕ) → CCall
  ActiveIds DrainRetirements ReplayRollbackHeight : (answer : List ℕ) → CCall
  Look : (id : ℕ) → (answer : List ℕ) → CCall
  Summary : (answer : List ℕ) → CCall
  EmitRetirement FinishReplayIfAdvanced : ℕ → CCall
  ClearLocalArtifacts RestoreRuntime : CCall
  ReconcileChainTerminality : (observed spent : List ℕ) → (reorg : ℕ) → (back : List ℕ) → CCall
  CausallyRolledBackIds : (absent inputs answer : List ℕ) → CCall
  ReconciliationInputCoins : (outputs answer : List ℕ) → (count : ℕ) → CCall
  AbsentOutputsForIds : (ids absent answer : List ℕ) → (count : ℕ) → CCall
  BeginReplay : (height : ℕ) → (answer : List ℕ) → CCall
  CollectRollbackReplayIds : (ids : List ℕ) → CCall
  Write : (archive : List ℕ) → (length : ℕ) → CCall

-- what a call returns, and what it leaves in the lent runs
pub record Returned : Type 0 where
  pub number : ℕ
  pub book : List ℕ
  pub answer : List ℕ
  pub count : ℕ

abbrev pub back : ℕ → List ℕ → Returned
back n d = record { number = n; book = d; answer = []; count = 0 }

abbrev pub answered : ℕ → List ℕ → List ℕ → Returned
answered n d a = record { number = n; book = d; answer = a; count = 0 }

abbrev pub counted : ℕ → List ℕ → List ℕ → ℕ → Returned
counted n d a k = record { number = n; book = d; answer = a; count = k }

-- opening with two numbers: the opened book in the lent bytes d
abbrev pub OpenDid : (d : List ℕ) (token id : ℕ) → ℕ → List ℕ → Type 0
OpenDid d token id n d' = GivesBook (written 0 (opened token id) [] d []) n d'

-- reading: the archive's book in the lent bytes d, or 13 with the place p'
abbrev pub ReadDid : (d archive : List ℕ) (p : ℕ) → ℕ → List ℕ → ℕ → Type 0
ReadDid d archive p n d' p' = GivesPlace (read_into (read_archive archive) d p) n d' p'

-- hashing: the digest of a message, and the id of a coin string, at the front of the lent bytes
abbrev pub Sha256Did : (message digest : List ℕ) → ℕ → List ℕ → Type 0
Sha256Did message digest n digest' = GivesAnswer (digest_in message digest) n digest'

abbrev pub CoinIdDid : (coin id : List ℕ) → ℕ → List ℕ → Type 0
CoinIdDid coin id n id' = GivesAnswer (coin_id_in coin id) n id'

-- a call on the lent book d, and what it returned and left: the contract of each function. Refused 1 where d holds no book, then 2, then 3. Calls that only
-- look are lent the book as constant bytes, and the bytes that they leave are d
pub data Did (d : List ℕ) : CCall → Returned → Type 0 where
  queue_did : (delivery : List ℕ) {n : ℕ} {d' : List ℕ} → GivesBook (boundary no_form (given (bytes_as parse_delivery delivery) queue) d []) n d'
      → Did d (Queue delivery) (back n d')
  retained_delivery_did : (id trigger goal : ℕ) {n : ℕ} {d' : List ℕ}
      → GivesBook (boundary no_form (given (byte_as parse_trigger trigger) (λ t. given (byte_as parse_goal goal) (λ g. queue_retained_delivery id t g))) d []) n d'
      → Did d (QueueRetainedDelivery id trigger goal) (back n d')
  rebroadcast_did : (ids : List ℕ) (trigger : ℕ) {n : ℕ} {d' : List ℕ}
      → GivesBook (boundary no_form (listed (ids_ok ids) (given (byte_as parse_trigger trigger) (λ t. queue_rebroadcast_epoch ids t))) d []) n d'
      → Did d (QueueRebroadcastEpoch ids trigger) (back n d')
  fee_readiness_did : {n : ℕ} {d' : List ℕ} → GivesBook (boundary no_form queue_fee_readiness d []) n d' → Did d QueueFeeReadiness (back n d')
  drain_did : {a : List ℕ} {n : ℕ} {d' a' : List ℕ} → Gives (boundary drain_form drain d a) n d' a' → Did d (Drain a) (answered n d' a')
  fee_intent_did : {a : List ℕ} (token : ℕ) {n : ℕ} {a' : List ℕ} → Gives (boundary fee_intent_form (fee_intent_for_attempt token) d a) n d a'
      → Did d (FeeIntentForAttempt token a) (answered n d a')
  acknowledge_did : {a : List ℕ} (token : ℕ) {n : ℕ} {d' a' : List ℕ} → Gives (boundary status_form (acknowledge_attempt token) d a) n d' a'
      → Did d (AcknowledgeAttempt token a) (answered n d' a')
  stop_did : {a : List ℕ} (token : ℕ) {n : ℕ} {d' a' : List ℕ} → Gives (boundary status_form (stop_attempt token) d a) n d' a'
      → Did d (StopAttempt token a) (answered n d' a')
  abandon_did : {a : List ℕ} (token : ℕ) {n : ℕ} {d' a' : List ℕ} → Gives (boundary status_form (abandon_attempt token) d a) n d' a'
      → Did d (AbandonAttempt token a) (answered n d' a')
  relinquish_did : {a : List ℕ} (token : ℕ) {n : ℕ} {a' : List ℕ} → Gives (boundary status_form (relinquish_completed_attempt token) d a) n d a'
      → Did d (RelinquishCompletedAttempt token a) (answered n d a')
  attempt_did : {a : List ℕ} (token : ℕ) {n : ℕ} {a' : List ℕ} → Gives (boundary attempt_form (attempt token) d a) n d a'
      → Did d (Attempt token a) (answered n d a')
  finalize_did : {a : List ℕ} (token source : ℕ) (joined : List ℕ) {n : ℕ} {d' a' : List ℕ}
      → Gives (boundary final_form (given (source_in source) (λ s. given (joined_in source joined) (λ j. finalize_attempt token s j))) d a) n d' a'
      → Did d (FinalizeAttempt token source joined a) (answered n d' a')
  retain_did : {a : List ℕ} (removed : List ℕ) {n : ℕ} {d' a' : List ℕ} → Gives (boundary ids_form (retain_submitted removed) d a) n d' a'
      → Did d (RetainSubmitted removed a) (answered n d' a')
  active_ids_did : {a : List ℕ} {n : ℕ} {a' : List ℕ} → Gives (boundary ids_form active_ids d a) n d a' → Did d (ActiveIds a) (answered n d a')
  retirements_did : {a : List ℕ} {n : ℕ} {d' a' : List ℕ} → Gives (boundary ids_form drain_retirements d a) n d' a' → Did d (DrainRetirements a) (answered n d' a')
  height_did : {a : List ℕ} {n : ℕ} {a' : List ℕ} → Gives (boundary height_form replay_rollback_height d a) n d a'
      → Did d (ReplayRollbackHeight a) (answered n d a')
  look_did : {a : List ℕ} (id : ℕ) {n : ℕ} {a' : List ℕ} → Gives (boundary look_form (look_at id) d a) n d a' → Did d (Look id a) (answered n d a')
  summary_did : {a : List ℕ} {n : ℕ} {a' : List ℕ} → Gives (boundary summary_form summary d a) n d a' → Did d (Summary a) (answered n d a')
  emit_did : (id : ℕ) {n : ℕ} {d' : List ℕ} → GivesBook (boundary no_form (emit_retirement id) d []) n d' → Did d (EmitRetirement id) (back n d')
  finish_did : (height : ℕ) {n : ℕ} {d' : List ℕ} → GivesBook (boundary no_form (finish_replay_if_advanced (record { 0 = height })) d []) n d'
      → Did d (FinishReplayIfAdvanced height) (back n d')
  clear_did : {n : ℕ} {d' : List ℕ} → GivesBook (boundary no_form clear_local_artifacts d []) n d' → Did d ClearLocalArtifacts (back n d')
  restore_did : {n : ℕ} {d' : List ℕ} → GivesBook (boundary no_form restore_runtime d []) n d' → Did d RestoreRuntime (back n d')
  reconcile_did : (observed spent : List ℕ) (reorg : ℕ) (rolled_back : List ℕ) {n : ℕ} {d' : List ℕ}
      → GivesBook (boundary no_form
      (listed (coin_listb observed && id_listb spent && ids_ok rolled_back) (given (flag_in reorg) (λ f. reconcile_chain_terminality observed spent f rolled_back))) d []) n d'
      → Did d (ReconcileChainTerminality observed spent reorg rolled_back) (back n d')
  rolled_back_did : {a : List ℕ} (absent inputs : List ℕ) {n : ℕ} {a' : List ℕ} → Gives (boundary ids_form (causally_rolled_back_ids absent inputs) d a) n d a'
      → Did d (CausallyRolledBackIds absent inputs a) (answered n d a')
  input_coins_did : (outputs a : List ℕ) (count : ℕ) {n : ℕ} {a' : List ℕ} {k : ℕ}
      → GivesBytes (boundary bytes_form (reconciliation_input_coins outputs (length a)) d a) (length_of count (reconciliation_input_coins outputs (length a)) (held_in d)) n d a' k
      → Did d (ReconciliationInputCoins outputs a count) (counted n d a' k)
  absent_outputs_did : (ids absent a : List ℕ) (count : ℕ) {n : ℕ} {a' : List ℕ} {k : ℕ}
      → GivesBytes (boundary bytes_form (absent_outputs_for_ids ids absent (length a)) d a) (length_of count (absent_outputs_for_ids ids absent (length a)) (held_in d)) n d a' k
      → Did d (AbsentOutputsForIds ids absent a count) (counted n d a' k)
  begin_did : {a : List ℕ} (height : ℕ) {n : ℕ} {d' a' : List ℕ} → Gives (boundary flag_form (begin_replay (record { 0 = height })) d a) n d' a'
      → Did d (BeginReplay height a) (answered n d' a')
  collect_did : (ids : List ℕ) {n : ℕ} {d' : List ℕ} → GivesBook (boundary no_form (collect_rollback_replay_ids ids) d []) n d'
      → Did d (CollectRollbackReplayIds ids) (back n d')
  write_did : (a : List ℕ) (count : ℕ) {n : ℕ} {a' : List ℕ} {k : ℕ} → GivesLength (write_from (held_in d) a count) n a' k → Did d (Write a count) (counted n d a' k)
