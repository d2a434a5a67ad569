-- Where the rules of a call turn it away: with a number that is not 0, and not 12, save for the three calls that write into a buffer by themselves;
-- and a drain alone ends with its steps kept, by 11.
use Rattle.std.specs.Prelude.{ℕ, suc, Bool, true, false, cond, not, ◌&&◌, ◌||◌, List, [], ◌∷◌, map, ◌≡◌, refl, eqb}
use Rattle.std.specs.Prelude.{Option, None, Some}
use Rattle.base_lists.specs.Bytes.{eqs}
use Rattle.base_lists.specs.Lists.{elemb}
use Rattle.std.specs.List.{filter}
use Rattle.book.specs.declared.SubmittedTx.{SubmittedTx}
use Rattle.book.specs.declared.PendingDelivery.{PendingDelivery}
use Rattle.book.specs.declared.SubmissionId.{SubmissionId}
use Rattle.book.specs.declared.SubmissionDeliveryGoal.{SubmissionDeliveryGoal}
use Rattle.book.specs.Model.{Book}
use Rattle.book.specs.Sound.{readable_bundle, id_of}
use Rattle.book_answers.specs.declared.DrainFailureCause.{DrainFailureCause}
use Rattle.rules.specs.Keyed.{pick}
use Rattle.rules.specs.Parts.{intent_of}
use Rattle.rules.specs.Rule.{Rule, done, undo, stop, look, act, turn, ◌>>=◌, Outcome, ended, undone, stopped}
use Rattle.rules.specs.Calls.Candidate.{deliver, met, known_by, known, unknown, named, unnamed, planned_by, candidate}
use Rattle.rules.specs.Calls.Common.{withdraw}
use Rattle.rules.specs.Calls.Drain.{is_one_of, one_candidate, candidates, drain}
use Rattle.rules.specs.Calls.Plan.{Memory, blank, last64, miss_of, wanted}
use Rattle.book.specs.declared.refusal.Refusal.TheVariants as refusals
use Rattle.book.specs.Refusals as numbers
use Rattle.book.specs.Refusals.{refusal_number}

-- a number with which no call is turned away; w says whether 12 may be one
abbrev pub no_refusal : Bool → ℕ → Bool
no_refusal w n = eqb n 0 || (not w && eqb n numbers.short_buffer)

-- ---- rule trees; d says whether they may end with their steps kept, and w whether they may refuse 12
abbrev pub TurnsBy : {A : Type 0} → Bool → Bool → Rule A → Type 0
TurnsBy d w (done a) = Unit {0}
TurnsBy d w (undo n) = no_refusal w (refusal_number n) ≡ false
TurnsBy d w (stop n) = (d ≡ true) × (n ≡ refusals.NoToken)
TurnsBy d w (look k) = (b : Book) → TurnsBy d w (k b)
TurnsBy d w (act p r) = TurnsBy d w r
TurnsBy d w (turn r) = TurnsBy d w r

-- the same of an outcome
abbrev pub TurnedAway : {A : Type 0} → Bool → Bool → Outcome Book A → Type 0
TurnedAway d w (ended m xs a) = Unit {0}
TurnedAway d w (undone n) = no_refusal w (refusal_number n) ≡ false
TurnedAway d w (stopped m xs n) = (d ≡ true) × (n ≡ refusals.NoToken)

-- never 12
abbrev pub Turns : {A : Type 0} → Bool → Rule A → Type 0
Turns d r = TurnsBy d false r

module _ (d : Bool) where
  pub turns_bind : {A B : Type 0} (m : Rule A) (f : A → Rule B) → Turns d m → ((a : A) → Turns d (f a)) → Turns d (m >>= f)
  turns_bind (done a) f h k = k a
  turns_bind (undo n) f h k = h
  turns_bind (stop n) f h k = h
  turns_bind (look g) f h k = λ b. turns_bind (g b) f (h b) k
  turns_bind (act p r) f h k = turns_bind r f h k
  turns_bind (turn r) f h k = turns_bind r f h k

  pub turns_cond : {A : Type 0} (t : Bool) (x y : Rule A) → Turns d x → Turns d y → Turns d (cond t x y)
  turns_cond true x y h k = h
  turns_cond false x y h k = k

-- ---- drain
turns_deliver : (i : ℕ) (g : SubmissionDeliveryGoal) (a : Memory) → Turns true (deliver i g a)
unfolding deliver
turns_deliver i g a = turns_cond true (elemb i a.emitted) _ _ tt (λ b. turns_cond true (eqb b.next_token.0 last64) _ _ (refl, refl) tt)

turns_known : (n : ℕ) (c : PendingDelivery) (f : List ℕ) (t : SubmittedTx) (a : Memory) (m : Option DrainFailureCause) → Turns true (known_by n c f t a m)
unfolding met withdraw
turns_known n c f t a None = turns_cond true (wanted c.goal t.entry) _ _ (turns_deliver (id_of t) c.goal a) tt
turns_known n c f t a (Some m) = tt

turns_unknown : (n : ℕ) (c : PendingDelivery) (f : List ℕ) (b : Book) (a : Memory) → Turns true (unknown n c f b a)
unfolding unknown
turns_unknown n c f b a =
    turns_cond true (elemb b.next_id.0 (map id_of b.submitted)) _ _ tt
    (turns_cond true (not (readable_bundle c.intent.bundle)) _ _ tt
    (turns_cond true (eqb b.next_id.0 last64) _ _ tt (turns_deliver b.next_id.0 c.goal a)))

turns_planned : (n : ℕ) (c : PendingDelivery) (f : List ℕ) (b : Book) (a : Memory) (i : Option SubmissionId) → Turns true (planned_by n c f b a i)
unfolding known
turns_planned n c f b a None = go (filter (λ t. eqs t.entry.intent.intent_fingerprint f) b.submitted)
  where
    go : (ts : List SubmittedTx) → Turns true (unnamed n c f b a ts)
    go [] = turns_unknown n c f b a
    go (t ∷ ts) = turns_known n c f t a (miss_of c.intent f t.entry)
turns_planned n c f b a (Some i) = go (pick id_of i.0 b.submitted)
  where
    go : (ts : List SubmittedTx) → Turns true (named n c f i.0 a ts)
    go [] = tt
    go (t ∷ ts) = turns_known n c f t a (miss_of c.intent f t.entry)

turns_candidates : (n : ℕ) (cs : List PendingDelivery) (a : Memory) → Turns true (candidates n cs a)
unfolding candidates one_candidate candidate
turns_candidates n [] a = tt
turns_candidates n (c ∷ cs) a =
    turns_bind true (one_candidate n c a) (λ m. turn (candidates (suc n) cs m))
    (turns_cond true (is_one_of c.intent.id a.removed) _ _ tt (λ b. turns_planned n c (intent_of c.intent) b a c.intent.id))
    (λ m. turns_candidates (suc n) cs m)

pub turns_drain : Turns true drain
unfolding drain
turns_drain b = turns_candidates 0 b.pending blank
