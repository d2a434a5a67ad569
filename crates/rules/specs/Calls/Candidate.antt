-- Paper 01, "Drain and its plan": one candidate. `plan_pending_submission` and what `drain` makes of it.
use Rattle.std.specs.Prelude.{ℕ, cond, not, List, [], ◌∷◌, map, eqb}
use Rattle.std.specs.Prelude.{Option, None, Some}
use Rattle.base_lists.specs.Bytes.{eqs}
use Rattle.base_lists.specs.Lists.{elemb}
use Rattle.std.specs.List.{filter}
use Rattle.book.specs.declared.SubmittedTx.{SubmittedTx}
use Rattle.book.specs.declared.PendingDelivery.{PendingDelivery}
use Rattle.book.specs.declared.SubmissionId.{SubmissionId}
use Rattle.book.specs.declared.SubmissionDeliveryGoal.{SubmissionDeliveryGoal}
use Rattle.book.specs.Model.{Book}
use Rattle.book.specs.Sound.{readable_bundle, id_of}
use Rattle.book_answers.specs.declared.DrainFailureCause.{DrainFailureCause}
use Rattle.book_answers.specs.declared.DrainFailureCause.TheVariants.{NoRetainedState, IdCollides, OutputsUnreadable, IdsExhausted}
use Rattle.rules.specs.Calls.Common.{withdraw}
use Rattle.rules.specs.Calls.Plan.{Memory, with_emitted, with_removed, with_failure, last64, miss_of, wanted}
use Rattle.rules.specs.Keyed.{pick}
use Rattle.rules.specs.Parts.{intent_of}
use Rattle.rules.specs.Rule.{done, tighten, revise, retain, emit, Rule, stop, ◌>>=◌, ◌>>◌, book, step}
use Rattle.book.specs.declared.refusal.Refusal.TheVariants as refusals

-- "An id is emitted once a drain"; 11: "token needed, next token 2^64 − 1"
unfoldable pub deliver : ℕ → SubmissionDeliveryGoal → Memory → Rule Memory
deliver i g a = cond (elemb i a.emitted) (done a) (do
  b ← book
  cond (eqb b.next_token.0 last64) (stop refusals.NoToken) (do
    step (emit i g)
    done (with_emitted i a)))

-- plan 2, the candidate fits: "expiry becomes the smaller one present", also where nothing is emitted
unfoldable pub met : PendingDelivery → SubmittedTx → Memory → Rule Memory
unfolding wanted deliver
met c t a = do
  step (revise (id_of t) (tighten c.intent.expiry))
  cond (wanted c.goal t.entry) (deliver (id_of t) c.goal a) (done a)

-- plan 2, a miss: "that submission is removed with its queue entries, here and in the remaining candidates, and retired"
abbrev pub known_by : ℕ → PendingDelivery → List ℕ → SubmittedTx → Memory → Option DrainFailureCause → Rule Memory
known_by n c f t a None = met c t a
known_by n c f t a (Some m) = do
  withdraw (id_of t)
  done (with_failure n m (id_of t) f (with_removed (id_of t) a))

unfoldable pub known : ℕ → PendingDelivery → List ℕ → SubmittedTx → Memory → Rule Memory
unfolding miss_of met withdraw
known n c f t a = known_by n c f t a (miss_of c.intent f t.entry)

-- plan 3: "next id already retained, SubmissionId; unreadable bundle, ExpectedOutputs; next id 2^64 − 1, SubmissionId. Else retain and emit"
unfoldable pub unknown : ℕ → PendingDelivery → List ℕ → Book → Memory → Rule Memory
unfolding readable_bundle deliver
unknown n c f b a =
    cond (elemb b.next_id.0 (map id_of b.submitted)) (done (with_failure n IdCollides b.next_id.0 f a))
    (cond (not (readable_bundle c.intent.bundle)) (done (with_failure n OutputsUnreadable b.next_id.0 f a))
    (cond (eqb b.next_id.0 last64) (done (with_failure n IdsExhausted b.next_id.0 f a))
    (do
      step (retain c.intent)
      deliver b.next_id.0 c.goal a)))

-- plan 1: "With an id: the retained one, else failure RetainedState without removal"
abbrev pub named : ℕ → PendingDelivery → List ℕ → ℕ → Memory → List SubmittedTx → Rule Memory
named n c f i a [] = done (with_failure n NoRetainedState i f a)
named n c f i a (t ∷ ts) = known n c f t a

-- plan 1: "Without: first retained of equal intent fingerprint"
abbrev pub unnamed : ℕ → PendingDelivery → List ℕ → Book → Memory → List SubmittedTx → Rule Memory
unnamed n c f b a [] = unknown n c f b a
unnamed n c f b a (t ∷ ts) = known n c f t a

abbrev pub planned_by : ℕ → PendingDelivery → List ℕ → Book → Memory → Option SubmissionId → Rule Memory
planned_by n c f b a None = unnamed n c f b a (filter (λ t. eqs t.entry.intent.intent_fingerprint f) b.submitted)
planned_by n c f b a (Some i) = named n c f i.0 a (pick id_of i.0 b.submitted)

unfoldable pub candidate : ℕ → PendingDelivery → Memory → Rule Memory
unfolding intent_of pick known unknown
candidate n c a = do
  b ← book
  let f = intent_of c.intent in planned_by n c f b a c.intent.id
