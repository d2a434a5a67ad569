-- Paper 01, "Drain and its plan": "After an accepted drain every submission emitted and not removed later in that drain holds exactly its
-- emitted token as live".
use Rattle.std.specs.Prelude.{ℕ, suc, Bool, true, false, cond, not, ◌&&◌, ◌≡◌, refl, eqb}
use Rattle.std.proofs.lemmas.Bool.{false≢true, eqb-false}
use mathlib.Core.List.Memᴰ
use mathlib.Core.List.{List, [], ◌∷◌, ◌++◌, map, Memᴰ}
use Rattle.std.specs.Prelude.{Option, None, Some}
use Rattle.std.proofs.Common.{sym, ap, ◌∙◌, subst, eqb-true, eq-eqb, ne_eqb}
use Rattle.base_lists.specs.Bytes.{eqs}
use Rattle.base_lists.specs.Lists.{elemb}
use Rattle.std.specs.List.{filter}
use Rattle.book.specs.declared.SubmittedTx.{SubmittedTx}
use Rattle.book.specs.declared.PendingSubmissionIntent.{PendingSubmissionIntent}
use Rattle.book.specs.declared.PendingDelivery.{PendingDelivery}
use Rattle.book.specs.declared.SubmissionId.{SubmissionId}
use Rattle.book.specs.declared.SubmissionDeliveryGoal.{SubmissionDeliveryGoal}
use Rattle.book.specs.Model.{Book}
use Rattle.book.specs.Sound.{readable_bundle, id_of}
use Rattle.book_answers.specs.declared.DrainFailureCause.{DrainFailureCause}
use Rattle.book_answers.specs.declared.DrainedSubmission.{DrainedSubmission}
use Rattle.rules.specs.Keyed.{pick, change, without, mem_picked, picked_key}
use Rattle.rules.specs.Parts.{current_fingerprint, intent_of}
use Rattle.rules.specs.Rule.{done, Revision, Note, Step, note, revise, retain, emit, remove, set_aside, finalise, replay, Rule, undo, stop, look, act, turn, ◌>>=◌, Outcome, ended, undone, stopped, logged, guarded, grows, full, run}
use Rattle.rules.specs.Steps.{with_submitted, with_entry, with_slots, note_book, revise_book, retainable, retained, retain_book, issue_book, emit_to, emit_book, remove_book, on_book, run_book}
use Rattle.rules.specs.Steps.Entry.{revised}
use Rattle.rules.specs.Steps.Slots.{issue_attempt, slots_issued, handed}
use Rattle.rules.specs.Calls.Candidate.{deliver, met, known_by, known, unknown, named, unnamed, planned_by, candidate}
use Rattle.rules.specs.Calls.Common.{withdraw}
use Rattle.rules.specs.Calls.Drain.{is_one_of, one_candidate, candidates, drain}
use Rattle.rules.specs.Calls.Plan.{Memory, blank, last64, miss_of, wanted}
use Rattle.rules_laws.specs.Sound.Parts.{revised_id}

-- the live slot of the submission i holds the token t
pub record HoldsLive (b : Book) (i t : ℕ) : Type 0 where
  pub held : SubmittedTx
  pub retained : Memᴰ held b.submitted
  pub id : id_of held ≡ i
  pub live : held.slots.active_attempt.present ≡ true
  pub token : held.slots.active_attempt.attempt.token.0 ≡ t

abbrev pub Holds : Book → ℕ → Option ℕ → Type 0
Holds b i None = Unit {0}
Holds b i (Some t) = HoldsLive b i t

-- the token last issued to i and not followed by a removal of i: by what a step hands out, and by all steps of a run
abbrev pub issued_to : ℕ → List DrainedSubmission → Option ℕ → Option ℕ
issued_to i [] o = o
issued_to i (x ∷ xs) o = issued_to i xs (cond (eqb x.id.0 i) (Some x.attempt_token.0) o)

abbrev pub after_step : ℕ → Step → List DrainedSubmission → Option ℕ → Option ℕ
after_step i (note n) xs o = o
after_step i (revise j r) xs o = o
after_step i (retain p) xs o = o
after_step i (emit j g) xs o = issued_to i xs o
after_step i (remove j) xs o = cond (eqb j i) None o
after_step i (set_aside j) xs o = o
after_step i (finalise j v) xs o = o
after_step i (replay j) xs o = o

unfoldable pub token_after : {A : Type 0} → ℕ → Rule A → Book → Option ℕ → Option ℕ
unfolding on_book
token_after i (done a) b o = o
token_after i (undo n) b o = o
token_after i (stop n) b o = o
token_after i (look k) b o = token_after i (k b) b o
token_after i (act p r) b o = token_after i r (on_book p b).after (after_step i p (on_book p b).out o)
token_after i (turn r) b o = token_after i r b o

-- ---- rules without some steps
abbrev pub AllSteps : {A : Type 0} → (Step → Bool) → Rule A → Type 0
AllSteps q (done a) = Unit {0}
AllSteps q (undo n) = Unit {0}
AllSteps q (stop n) = Unit {0}
AllSteps q (look k) = (b : Book) → AllSteps q (k b)
AllSteps q (act p r) = (q p ≡ true) × AllSteps q r
AllSteps q (turn r) = AllSteps q r

-- a drain sets nothing aside, finalises nothing and marks nothing
abbrev pub drains : Step → Bool
drains (note n) = true
drains (revise i r) = true
drains (retain p) = true
drains (emit i g) = true
drains (remove i) = true
drains (set_aside i) = false
drains (finalise i v) = false
drains (replay i) = false

all_bind : {A B : Type 0} (q : Step → Bool) (m : Rule A) (f : A → Rule B) → AllSteps q m → ((a : A) → AllSteps q (f a)) → AllSteps q (m >>= f)
all_bind q (done a) f h k = k a
all_bind q (undo n) f h k = tt
all_bind q (stop n) f h k = tt
all_bind q (look g) f h k = λ b. all_bind q (g b) f (h b) k
all_bind q (act p r) f h k = (h.0, all_bind q r f h.1 k)
all_bind q (turn r) f h k = all_bind q r f h k

all_cond : {A : Type 0} (q : Step → Bool) (t : Bool) (x y : Rule A) → AllSteps q x → AllSteps q y → AllSteps q (cond t x y)
all_cond q true x y h k = h
all_cond q false x y h k = k

-- ---- one step
mem_left : {A : Type 0} {x : A} {xs : List A} (ys : List A) → Memᴰ x xs → Memᴰ x (xs ++ ys)
mem_left ys (Memᴰ.head e) = Memᴰ.head e
mem_left ys (Memᴰ.tail m) = Memᴰ.tail (mem_left ys m)

mem_keep : {A : Type 0} (q : A → Bool) {x : A} {xs : List A} → q x ≡ true → Memᴰ x xs → Memᴰ x (filter q xs)
mem_keep q {x} k (Memᴰ.head {x = y} {xs = xs} e) = rw (ap q (sym e) ∙ k) (Memᴰ.head e)
mem_keep {A} q {x} k (Memᴰ.tail {x = y} {xs = xs} m) = go (q y) (mem_keep q k m)
  where
    go : (t : Bool) → Memᴰ x (filter q xs) → Memᴰ x (cond t (y ∷ filter q xs) (filter q xs))
    go true h = Memᴰ.tail h
    go false h = h

-- a change leaves the submissions of other ids
mem_other : (i j : ℕ) (f : SubmittedTx → SubmittedTx) {s : SubmittedTx} {ts : List SubmittedTx} → eqb (id_of s) j ≡ false → Memᴰ s ts → Memᴰ s (change id_of j f ts)
unfolding change
mem_other i j f {s} {ts} n m = subst (λ (u : SubmittedTx). Memᴰ u (map (λ x. cond (eqb (id_of x) j) (f x) x) ts)) (ap (λ (t : Bool). cond t (f s) s) n) (Memᴰ.map (λ x. cond (eqb (id_of x) j) (f x) x) m)

mem_own : (j : ℕ) (f : SubmittedTx → SubmittedTx) {s : SubmittedTx} {ts : List SubmittedTx} → eqb (id_of s) j ≡ true → Memᴰ s ts → Memᴰ (f s) (change id_of j f ts)
unfolding change
mem_own j f {s} {ts} n m = subst (λ (u : SubmittedTx). Memᴰ u (map (λ x. cond (eqb (id_of x) j) (f x) x) ts)) (ap (λ (t : Bool). cond t (f s) s) n) (Memᴰ.map (λ x. cond (eqb (id_of x) j) (f x) x) m)

revise_holds : (j : ℕ) (r : Revision) (b : Book) (i t : ℕ) → HoldsLive b i t → HoldsLive (revise_book j r b) i t
unfolding revise_book
revise_holds j r b i t h = go (eqb (id_of h.held) j) refl
  where
    go : (x : Bool) → eqb (id_of h.held) j ≡ x → HoldsLive (with_submitted (change id_of j (with_entry (revised r)) b.submitted) b) i t
    go true e = record {
      held = with_entry (revised r) h.held;
      retained = mem_own j (with_entry (revised r)) e h.retained;
      id = ap (λ x. x.0) (revised_id r h.held.entry) ∙ h.id;
      live = h.live;
      token = h.token;
    }
    go false e = record { held = h.held; retained = mem_other i j (with_entry (revised r)) e h.retained; id = h.id; live = h.live; token = h.token }

retain_holds : (p : PendingSubmissionIntent) (b : Book) (i t : ℕ) → HoldsLive b i t → HoldsLive (retain_book p b) i t
unfolding retain_book retained
retain_holds p b i t h = go (retainable p b.next_id.0 (map id_of b.submitted))
  where
    go : (x : Bool) → HoldsLive (cond x (retained p b) b) i t
    go true = record { held = h.held; retained = mem_left _ h.retained; id = h.id; live = h.live; token = h.token }
    go false = h

note_holds : (n : Note) (b : Book) (i t : ℕ) → HoldsLive b i t → HoldsLive (note_book n b) i t
unfolding note_book
note_holds n b i t h = record { held = h.held; retained = h.retained; id = h.id; live = h.live; token = h.token }

remove_holds : (j : ℕ) (b : Book) (i t : ℕ) → eqb j i ≡ false → HoldsLive b i t → HoldsLive (remove_book j b) i t
unfolding remove_book without
remove_holds j b i t n h = record {
  held = h.held;
  retained = mem_keep (λ s. not (eqb (id_of s) j)) (ap not (ne_eqb (id_of h.held) j (λ e. eqb-false j i n (sym e ∙ h.id)))) h.retained;
  id = h.id;
  live = h.live;
  token = h.token;
}

issue_others : (j : ℕ) (g : SubmissionDeliveryGoal) (v : List ℕ) (b : Book) (i t : ℕ) → eqb j i ≡ false → HoldsLive b i t → HoldsLive (issue_book j g v b) i t
unfolding issue_book
issue_others j g v b i t n h = record {
  held = h.held;
  retained = mem_other i j _ (ne_eqb (id_of h.held) j (λ e. eqb-false j i n (sym e ∙ h.id))) h.retained;
  id = h.id;
  live = h.live;
  token = h.token;
}

issue_own : (j : ℕ) (g : SubmissionDeliveryGoal) (v : List ℕ) (b : Book) (s : SubmittedTx) → Memᴰ s b.submitted → id_of s ≡ j → HoldsLive (issue_book j g v b) j b.next_token.0
unfolding issue_book slots_issued issue_attempt
issue_own j g v b s m e = record {
  held = with_slots (slots_issued (issue_attempt b.next_token.0 g v)) s;
  retained = mem_own j (with_slots (slots_issued (issue_attempt b.next_token.0 g v))) (eq-eqb (id_of s) j e) m;
  id = e;
  live = refl;
  token = refl;
}

emit_holds : (j : ℕ) (g : SubmissionDeliveryGoal) (b : Book) (i : ℕ) (o : Option ℕ) → Holds b i o → Holds (emit_book j g b).after i (issued_to i (emit_book j g b).out o)
unfolding emit_book handed
emit_holds j g b i o h = go (pick id_of j b.submitted) refl
  where
    by : (s : SubmittedTx) → Memᴰ s b.submitted → id_of s ≡ j → (x : Bool) → eqb (id_of s) i ≡ x → (o : Option ℕ) → Holds b i o
        → Holds (issue_book j g (current_fingerprint s.entry) b) i (cond x (Some b.next_token.0) o)
    by s m e true q o k = subst (λ (n : ℕ). HoldsLive (issue_book j g (current_fingerprint s.entry) b) n b.next_token.0) (sym e ∙ eqb-true (id_of s) i q) (issue_own j g (current_fingerprint s.entry) b s m e)
    by s m e false q None k = tt
    by s m e false q (Some t) k = issue_others j g (current_fingerprint s.entry) b i t (ne_eqb j i (λ r. eqb-false (id_of s) i q (e ∙ r))) k

    go : (ts : List SubmittedTx) → pick id_of j b.submitted ≡ ts → Holds (emit_to j g b ts).after i (issued_to i (emit_to j g b ts).out o)
    go [] q = h
    go (s ∷ ts) q = by s (mem_picked id_of j b.submitted (rw q (Memᴰ.head refl))) (picked_key id_of j b.submitted q) (eqb (id_of s) i) refl o h

step_holds : (p : Step) (b : Book) (i : ℕ) (o : Option ℕ) → drains p ≡ true → Holds b i o → Holds (on_book p b).after i (after_step i p (on_book p b).out o)
unfolding on_book
step_holds (note n) b i None d h = tt
step_holds (note n) b i (Some t) d h = note_holds n b i t h
step_holds (revise j r) b i None d h = tt
step_holds (revise j r) b i (Some t) d h = revise_holds j r b i t h
step_holds (retain p) b i None d h = tt
step_holds (retain p) b i (Some t) d h = retain_holds p b i t h
step_holds (emit j g) b i o d h = emit_holds j g b i o h
step_holds (remove j) b i o d h = go (eqb j i) refl o h
  where
    go : (x : Bool) → eqb j i ≡ x → (o : Option ℕ) → Holds b i o → Holds (remove_book j b) i (cond x None o)
    go true e o k = tt
    go false e None k = tt
    go false e (Some t) k = remove_holds j b i t e k
step_holds (set_aside j) b i o d h = absurd (false≢true d)
step_holds (finalise j v) b i o d h = absurd (false≢true d)
step_holds (replay j) b i o d h = absurd (false≢true d)

-- ---- rules of such steps
abbrev pub HoldsIn : {A : Type 0} → ℕ → Option ℕ → Outcome Book A → Type 0
HoldsIn i o (ended b xs a) = Holds b i o
HoldsIn i o (undone n) = Unit {0}
HoldsIn i o (stopped b xs n) = Holds b i o

holds_logged : {A : Type 0} (i : ℕ) (o : Option ℕ) (t : Bool) (xs : List DrainedSubmission) (k : Outcome Book A) → HoldsIn i o k → HoldsIn i o (guarded t (logged xs k))
holds_logged i o true xs k h = tt
holds_logged i o false xs (ended b ys a) h = h
holds_logged i o false xs (undone n) h = tt
holds_logged i o false xs (stopped b ys n) h = h

holds_run : {A : Type 0} (r : Rule A) (b : Book) (i : ℕ) (o : Option ℕ) → AllSteps drains r → Holds b i o → HoldsIn i (token_after i r b o) (run_book r b)
unfolding run token_after
holds_run (done a) b i o d h = h
holds_run (undo n) b i o d h = tt
holds_run (stop n) b i o d h = h
holds_run (look k) b i o d h = holds_run (k b) b i o (d b) h
holds_run (act p r) b i o d h =
    holds_logged i (token_after i r (on_book p b).after (after_step i p (on_book p b).out o)) (grows p && full (on_book p b).after) (on_book p b).out (run_book r (on_book p b).after)
    (holds_run r (on_book p b).after i (after_step i p (on_book p b).out o) d.1 (step_holds p b i o d.0 h))
holds_run (turn r) b i o d h = holds_run r b i o d h

-- ---- the drain is made of such steps
all_deliver : (i : ℕ) (g : SubmissionDeliveryGoal) (a : Memory) → AllSteps drains (deliver i g a)
unfolding deliver
all_deliver i g a = all_cond drains (elemb i a.emitted) _ _ tt (λ b. all_cond drains (eqb b.next_token.0 last64) _ _ tt (refl, tt))

all_known : (n : ℕ) (c : PendingDelivery) (f : List ℕ) (t : SubmittedTx) (a : Memory) (m : Option DrainFailureCause) → AllSteps drains (known_by n c f t a m)
unfolding met withdraw
all_known n c f t a None = (refl, all_cond drains (wanted c.goal t.entry) _ _ (all_deliver (id_of t) c.goal a) tt)
all_known n c f t a (Some m) = (refl, (refl, tt))

all_unknown : (n : ℕ) (c : PendingDelivery) (f : List ℕ) (b : Book) (a : Memory) → AllSteps drains (unknown n c f b a)
unfolding unknown
all_unknown n c f b a =
    all_cond drains (elemb b.next_id.0 (map id_of b.submitted)) _ _ tt
    (all_cond drains (not (readable_bundle c.intent.bundle)) _ _ tt
    (all_cond drains (eqb b.next_id.0 last64) _ _ tt (refl, all_deliver b.next_id.0 c.goal a)))

all_named : (n : ℕ) (c : PendingDelivery) (f : List ℕ) (i : ℕ) (a : Memory) (ts : List SubmittedTx) → AllSteps drains (named n c f i a ts)
unfolding known
all_named n c f i a [] = tt
all_named n c f i a (t ∷ ts) = all_known n c f t a (miss_of c.intent f t.entry)

all_unnamed : (n : ℕ) (c : PendingDelivery) (f : List ℕ) (b : Book) (a : Memory) (ts : List SubmittedTx) → AllSteps drains (unnamed n c f b a ts)
unfolding known
all_unnamed n c f b a [] = all_unknown n c f b a
all_unnamed n c f b a (t ∷ ts) = all_known n c f t a (miss_of c.intent f t.entry)

all_planned : (n : ℕ) (c : PendingDelivery) (f : List ℕ) (b : Book) (a : Memory) (i : Option SubmissionId) → AllSteps drains (planned_by n c f b a i)
all_planned n c f b a None = all_unnamed n c f b a (filter (λ t. eqs t.entry.intent.intent_fingerprint f) b.submitted)
all_planned n c f b a (Some i) = all_named n c f i.0 a (pick id_of i.0 b.submitted)

all_candidates : (n : ℕ) (cs : List PendingDelivery) (a : Memory) → AllSteps drains (candidates n cs a)
unfolding candidates one_candidate candidate
all_candidates n [] a = tt
all_candidates n (c ∷ cs) a =
    all_bind drains (one_candidate n c a) (λ a'. turn (candidates (suc n) cs a'))
    (all_cond drains (is_one_of c.intent.id a.removed) _ _ tt (λ b. all_planned n c (intent_of c.intent) b a c.intent.id))
    (λ a'. all_candidates (suc n) cs a')

all_drain : AllSteps drains drain
unfolding drain
all_drain = λ b. (refl, all_candidates 0 b.pending blank)

-- whatever a drain last issued to i, and did not remove after that, i holds as live when the drain is accepted, or ended with 11
pub drain_holds : (b : Book) (i t : ℕ) → token_after i drain b None ≡ Some t → HoldsIn i (Some t) (run_book drain b)
drain_holds b i t e = subst (λ (o : Option ℕ). HoldsIn i o (run_book drain b)) e (holds_run drain b i None all_drain tt)
