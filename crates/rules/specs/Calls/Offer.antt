-- `queue_retained_delivery`: a retained submission is offered again, under the conditions that the Rust lists.
use Rattle.std.specs.Prelude.{ℕ, Bool, true, false, cond, not, ◌&&◌, ◌||◌, List, [], ◌∷◌}
use Rattle.std.specs.List.{list_any}
use Rattle.book.specs.declared.SubmittedEntry.{SubmittedEntry}
use Rattle.book.specs.declared.SubmittedTx.{SubmittedTx}
use Rattle.book.specs.declared.PendingDelivery.{PendingDelivery}
use Rattle.std.specs.Prelude.{Some}
use Rattle.book.specs.declared.SubmissionDeliveryGoal.{SubmissionDeliveryGoal}
use Rattle.book.specs.declared.SubmissionDeliveryGoal.TheVariants.{EnsureBroadcast, FeeUpgrade}
use Rattle.book.specs.declared.DeliveryTrigger.{DeliveryTrigger}
use Rattle.book.specs.declared.DeliveryTrigger.TheVariants.{Protocol, FreshChain, Rollback, ProviderReadiness}
use Rattle.book.specs.Model.{Book}
use Rattle.book.specs.Sound.{id_of}
use Rattle.book.specs.Zero.{is_ensure_broadcast, is_protocol}
use Rattle.rules.specs.Keyed.{pick}
use Rattle.rules.specs.Parts.{current_acknowledged, fee_unresolved, active_entry}
use Rattle.rules.specs.Rule.{done, enqueue, note, Rule, ◌>>=◌, book, step}
use Rattle.rules.specs.Steps.Notes.{is_id}

-- the queue has an entry of this id
unfoldable pub is_queued : ℕ → Book → Bool
is_queued i b = list_any (λ d. is_id i d.intent.id) b.pending

-- `FreshChain` or `ProviderReadiness`
abbrev pub is_news : DeliveryTrigger → Bool
is_news Protocol = false
is_news FreshChain = true
is_news Rollback = false
is_news ProviderReadiness = true

abbrev pub has_live : SubmittedTx → Bool
has_live t = t.slots.active_attempt.present

-- a live attempt that is not finalised
abbrev pub in_flight : SubmittedTx → Bool
in_flight t = has_live t && not t.slots.active_attempt.attempt.finalized_variant_fingerprint.present

unfoldable pub deliverable : DeliveryTrigger → SubmissionDeliveryGoal → SubmittedTx → Bool
deliverable trigger g t =
    active_entry t.entry && not (is_news trigger && fee_unresolved t.entry && in_flight t) && not (has_live t && is_protocol trigger)
    && (is_ensure_broadcast g || fee_unresolved t.entry)

-- the queue entry of a retained submission's own intent
unfoldable pub redelivery : DeliveryTrigger → SubmissionDeliveryGoal → SubmittedEntry → PendingDelivery
redelivery trigger g e = record {
  intent = record { id = Some e.id; bundle = e.intent.base_bundle; expiry = e.state.status.expiry; fee_intent = e.intent.fee_intent };
  trigger = trigger;
  goal = g;
}

abbrev pub offer_to : DeliveryTrigger → SubmissionDeliveryGoal → Bool → List SubmittedTx → Rule (Unit {0})
offer_to trigger g queued [] = done tt
offer_to trigger g queued (t ∷ ts) = cond (not queued && deliverable trigger g t) (step (note (enqueue (redelivery trigger g t.entry)))) (done tt)

unfoldable pub offer : ℕ → DeliveryTrigger → SubmissionDeliveryGoal → Rule (Unit {0})
unfolding is_queued deliverable redelivery pick
offer i trigger g = do
  b ← book
  offer_to trigger g (is_queued i b) (pick id_of i b.submitted)

-- the goal of a rebroadcast: `FeeUpgrade` where the current variant is acknowledged
unfoldable pub goal_for : SubmittedEntry → SubmissionDeliveryGoal
unfolding current_acknowledged
goal_for e = cond (current_acknowledged e) FeeUpgrade EnsureBroadcast
