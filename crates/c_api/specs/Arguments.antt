-- The calls whose arguments are bytes that must stand for values, two of them beside lists: one law for each of their returns, in the order of
-- the checks (1, 2, 3). Each is the law of the call on lent bytes, said of the function of the library.
use Rattle.std.specs.Prelude.{ℕ, ◌≤◌, ◌<◌, ◌≡◌, Bool, true, false, List, [], eqb, length}
use Rattle.std.specs.Prelude.{Option, None, Some}
use Rattle.book.specs.Model.{view}
use Rattle.book.specs.declared.BookData.{BookData}
use Rattle.book.specs.declared.DeliveryTrigger.{DeliveryTrigger}
use Rattle.book.specs.declared.PendingDelivery.{PendingDelivery}
use Rattle.book.specs.declared.SpendBundle.{SpendBundle}
use Rattle.book.specs.declared.SubmissionDeliveryGoal.{SubmissionDeliveryGoal}
use Rattle.archive_form.specs.Parse.{parse_delivery, parse_trigger, parse_goal}
use Rattle.rules.specs.Calls.FinalizeAttempt.{finalize_attempt}
use Rattle.rules.specs.Calls.Queue.{queue}
use Rattle.rules.specs.Calls.QueueRebroadcastEpoch.{queue_rebroadcast_epoch}
use Rattle.rules.specs.Calls.QueueRetainedDelivery.{queue_retained_delivery}
use Rattle.rules.specs.Calls.ReconcileChainTerminality.{reconcile_chain_terminality}
use Rattle.rules.specs.Steps.{run_book}
use Rattle.part_replies.specs.Reply.{reply}
use Rattle.part_replies.specs.declared.Reply.{Reply}
use Rattle.book_answers.specs.declared.FinalizedSubmission.{FinalizedSubmission}
use Rattle.book_answers.specs.declared.SubmissionFeeSource.{SubmissionFeeSource}
use Rattle.c_boundary.specs.Arguments.{byte_as, bytes_as}
use Rattle.c_boundary.specs.Held.{held_in, Holding}
use Rattle.c_boundary.specs.Settle.{Gives, GivesBook, finish, coded}
use Rattle.codec_answers.specs.Forms.{enc_option, encode_final}
use Rattle.c_api.specs.Functions.{CCall, Did, back, answered, queue_did, retained_delivery_did, finalize_did, rebroadcast_did, reconcile_did}
use Rattle.c_calls_attempts.specs.Source.{source_in, source_over, joined_in}
use Rattle.c_calls_queue.specs.Deliveries as deliveries
use Rattle.c_calls_attempts.specs.Finalize as finalizing
use Rattle.c_calls_chain.specs.Report as reporting
use Rattle.c_calls_chain.specs.Report.{report_lists}
pub use Rattle.c_calls_chain.specs.Report.{lists_are}

-- ---- queue
module _ (d delivery : List ℕ) where
  pub queue_absent : held_in d ≡ None → Did d (CCall.Queue delivery) (back 1 d)
  queue_absent e = queue_did delivery (deliveries.queue_absent d delivery e)

  module _ (b : BookData) (h : Holding d b) where
    pub queue_bad : bytes_as parse_delivery delivery ≡ None → Did d (CCall.Queue delivery) (back 3 d)
    queue_bad e = queue_did delivery (deliveries.queue_bad d delivery b h e)

    pub queue_done : {v : PendingDelivery} {n : ℕ} {d' : List ℕ} (r : Reply (Unit {0}) BookData) → bytes_as parse_delivery delivery ≡ Some v
        → r ≡ reply b (run_book (queue v) (view b)) → GivesBook (finish (coded (λ _. []) r.answer) r.book d []) n d' → Did d (CCall.Queue delivery) (back n d')
    queue_done r e q g = queue_did delivery (deliveries.queue_done d delivery b h r e q g)

-- ---- queue_retained_delivery
module _ (d : List ℕ) (id trigger goal : ℕ) where
  pub delivery_absent : held_in d ≡ None → Did d (CCall.QueueRetainedDelivery id trigger goal) (back 1 d)
  delivery_absent e = retained_delivery_did id trigger goal (deliveries.delivery_absent d id trigger goal e)

  module _ (b : BookData) (h : Holding d b) where
    pub trigger_bad : byte_as parse_trigger trigger ≡ None → Did d (CCall.QueueRetainedDelivery id trigger goal) (back 3 d)
    trigger_bad e = retained_delivery_did id trigger goal (deliveries.trigger_bad d id trigger goal b h e)

    module _ {t : DeliveryTrigger} (e : byte_as parse_trigger trigger ≡ Some t) where
      pub goal_bad : byte_as parse_goal goal ≡ None → Did d (CCall.QueueRetainedDelivery id trigger goal) (back 3 d)
      goal_bad f = retained_delivery_did id trigger goal (deliveries.goal_bad d id trigger goal b h e f)

      pub delivery_done : {g : SubmissionDeliveryGoal} {n : ℕ} {d' : List ℕ} (r : Reply (Unit {0}) BookData) → byte_as parse_goal goal ≡ Some g
          → r ≡ reply b (run_book (queue_retained_delivery id t g) (view b)) → GivesBook (finish (coded (λ _. []) r.answer) r.book d []) n d'
          → Did d (CCall.QueueRetainedDelivery id trigger goal) (back n d')
      delivery_done r f q x = retained_delivery_did id trigger goal (deliveries.delivery_done d id trigger goal b h e r f q x)

-- ---- finalize_attempt
module _ (d : List ℕ) (token source : ℕ) (joined a : List ℕ) where
  pub finalize_absent : held_in d ≡ None → Did d (CCall.FinalizeAttempt token source joined a) (answered 1 d a)
  finalize_absent e = finalize_did token source joined (finalizing.finalize_absent d token source joined a e)

  module _ (b : BookData) (h : Holding d b) where
    pub source_bad : 3 < source → Did d (CCall.FinalizeAttempt token source joined a) (answered 3 d a)
    source_bad e = finalize_did token source joined (finalizing.source_bad d token source joined a b h (source_over source e))

    module _ {s : SubmissionFeeSource} (e : source_in source ≡ Some s) where
      pub joined_bad : joined_in source joined ≡ None → Did d (CCall.FinalizeAttempt token source joined a) (answered 3 d a)
      joined_bad f = finalize_did token source joined (finalizing.joined_bad d token source joined a b h e f)

      pub finalize_done : {j : SpendBundle} {n : ℕ} {d' a' : List ℕ} {r : Reply (Option FinalizedSubmission) BookData}
          → joined_in source joined ≡ Some j → r ≡ reply b (run_book (finalize_attempt token s j) (view b))
          → Gives (finish (coded (enc_option encode_final) r.answer) r.book d a) n d' a'
          → Did d (CCall.FinalizeAttempt token source joined a) (answered n d' a')
      finalize_done f q g = finalize_did token source joined (finalizing.finalize_done d token source joined a b h e f q g)

-- ---- queue_rebroadcast_epoch
module _ (d ids : List ℕ) (trigger : ℕ) where
  pub epoch_absent : held_in d ≡ None → Did d (CCall.QueueRebroadcastEpoch ids trigger) (back 1 d)
  epoch_absent e = rebroadcast_did ids trigger (deliveries.epoch_absent d ids trigger e)

  module _ (b : BookData) (h : Holding d b) where
    pub epoch_long : 64 < length ids → Did d (CCall.QueueRebroadcastEpoch ids trigger) (back 2 d)
    epoch_long k = rebroadcast_did ids trigger (deliveries.epoch_long d ids trigger b h k)

    pub epoch_bad : length ids ≤ 64 → byte_as parse_trigger trigger ≡ None → Did d (CCall.QueueRebroadcastEpoch ids trigger) (back 3 d)
    epoch_bad k e = rebroadcast_did ids trigger (deliveries.epoch_bad d ids trigger b h k e)

    pub epoch_done : {t : DeliveryTrigger} {n : ℕ} {d' : List ℕ} (r : Reply (Unit {0}) BookData) → length ids ≤ 64 → byte_as parse_trigger trigger ≡ Some t
        → r ≡ reply b (run_book (queue_rebroadcast_epoch ids t) (view b)) → GivesBook (finish (coded (λ _. []) r.answer) r.book d []) n d'
        → Did d (CCall.QueueRebroadcastEpoch ids trigger) (back n d')
    epoch_done r k e q g = rebroadcast_did ids trigger (deliveries.epoch_done d ids trigger b h r k e q g)

-- ---- reconcile_chain_terminality
module _ (d observed spent : List ℕ) (reorg : ℕ) (ids : List ℕ) where
  abbrev lists : Bool
  lists = report_lists observed spent ids

  pub report_absent : held_in d ≡ None → Did d (CCall.ReconcileChainTerminality observed spent reorg ids) (back 1 d)
  report_absent e = reconcile_did observed spent reorg ids (reporting.report_absent d observed spent reorg ids e)

  module _ (b : BookData) (h : Holding d b) where
    pub report_unlisted : lists ≡ false → Did d (CCall.ReconcileChainTerminality observed spent reorg ids) (back 2 d)
    report_unlisted k = reconcile_did observed spent reorg ids (reporting.report_unlisted d observed spent reorg ids b h k)

    pub report_bad : lists ≡ true → 1 < reorg → Did d (CCall.ReconcileChainTerminality observed spent reorg ids) (back 3 d)
    report_bad k e = reconcile_did observed spent reorg ids (reporting.report_bad d observed spent reorg ids b h k e)

    pub report_done : {n : ℕ} {d' : List ℕ} (r : Reply (Unit {0}) BookData) → lists ≡ true → reorg ≤ 1
        → r ≡ reply b (run_book (reconcile_chain_terminality observed spent (eqb reorg 1) ids) (view b)) → GivesBook (finish (coded (λ _. []) r.answer) r.book d []) n d'
        → Did d (CCall.ReconcileChainTerminality observed spent reorg ids) (back n d')
    report_done r k e q g = reconcile_did observed spent reorg ids (reporting.report_done d observed spent reorg ids b h r k e q g)
