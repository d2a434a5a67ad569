-- Paper 01, "Drain and its plan": "An id is emitted once a drain."
use Rattle.std.specs.Prelude.{ℕ, suc, Bool, true, false, cond, not, ◌&&◌, ◌||◌, List, [], ◌∷◌, ◌++◌, map, ◌≡◌, refl, eqb}
use Rattle.std.proofs.Common.{append-nil, sym, ap, ◌∙◌, subst}
use Rattle.std.specs.Prelude.{Option, None, Some}
use Rattle.base_lists.specs.Laws.{or-false, elem_append}
use Rattle.base_lists.specs.Bytes.{eqs}
use Rattle.base_lists.specs.Lists.{elemb}
use Rattle.std.specs.List.{filter}
use Rattle.book.specs.declared.SubmittedTx.{SubmittedTx}
use Rattle.book.specs.declared.PendingDelivery.{PendingDelivery}
use Rattle.book.specs.declared.SubmissionId.{SubmissionId}
use Rattle.book.specs.declared.SubmissionDeliveryGoal.{SubmissionDeliveryGoal}
use Rattle.book.specs.Model.{Book}
use Rattle.book.specs.Sound.{readable_bundle, id_of}
use Rattle.book_answers.specs.declared.DrainFailureCause.{DrainFailureCause}
use Rattle.book_answers.specs.declared.DrainedSubmission.{DrainedSubmission}
use Rattle.book_answers.specs.declared.SubmissionDrainFailure.{SubmissionDrainFailure}
use Rattle.rules.specs.Keyed.{pick, picked_key}
use Rattle.rules.specs.Parts.{intent_of}
use Rattle.rules.specs.Rule.{done, Step, note, revise, retain, emit, remove, set_aside, finalise, replay, Rule, undo, stop, look, act, turn, ◌>>=◌, Outcome, ended, undone, stopped, logged, guarded, lengthens, full, run, issued_by}
use Rattle.rules.specs.Steps.{note_book, revise_book, retain_book, emit_to, emit_book, remove_book, mark_book, replay_book, on_book, run_book}
use Rattle.rules.specs.Steps.Slots.{taken, slots_aside, slots_final, handed}
use Rattle.rules.specs.Calls.Candidate.{deliver, met, known_by, known, unknown, named, unnamed, planned_by, candidate}
use Rattle.rules.specs.Calls.Common.{withdraw}
use Rattle.rules.specs.Calls.Drain.{is_one_of, one_candidate, candidates, drain}
use Rattle.rules.specs.Calls.Plan.{Memory, blank, last64, miss_of, wanted}

-- no id of xs is in E, or twice in xs
abbrev pub Fresh : List ℕ → List DrainedSubmission → Type 0
Fresh E [] = Unit {0}
Fresh E (x ∷ xs) = (elemb x.id.0 E ≡ false) × Fresh (E ++ x.id.0 ∷ []) xs

-- ---- rules that emit no id of E, and none twice; P is asked where they end, of the ids so far
abbrev emits : Step → List ℕ
emits (note n) = []
emits (revise i r) = []
emits (retain p) = []
emits (emit i g) = i ∷ []
emits (remove i) = []
emits (set_aside i) = []
emits (finalise i v) = []
emits (replay i) = []

abbrev Allowed : List ℕ → List ℕ → Type 0
Allowed [] E = Unit {0}
Allowed (i ∷ is) E = elemb i E ≡ false

abbrev OnceTo : {A : Type 0} → (List ℕ → A → Type 0) → List ℕ → Rule A → Type 0
OnceTo P E (done a) = P E a
OnceTo P E (undo n) = Unit {0}
OnceTo P E (stop n) = Unit {0}
OnceTo P E (look k) = (b : Book) → OnceTo P E (k b)
OnceTo P E (act p r) = Allowed (emits p) E × OnceTo P (E ++ emits p) r
OnceTo P E (turn r) = OnceTo P E r

once_bind : {A B : Type 0} (P : List ℕ → B → Type 0) (E : List ℕ) (m : Rule A) (f : A → Rule B) → OnceTo (λ F a. OnceTo P F (f a)) E m → OnceTo P E (m >>= f)
once_bind P E (done a) f h = h
once_bind P E (undo n) f h = tt
once_bind P E (stop n) f h = tt
once_bind P E (look k) f h = λ b. once_bind P E (k b) f (h b)
once_bind P E (act p r) f h = (h.0, once_bind P (E ++ emits p) r f h.1)
once_bind P E (turn r) f h = once_bind P E r f h

once_weaken : {A : Type 0} (P Q : List ℕ → A → Type 0) → ((E : List ℕ) (a : A) → P E a → Q E a) → (E : List ℕ) (r : Rule A) → OnceTo P E r → OnceTo Q E r
once_weaken P Q w E (done a) h = w E a h
once_weaken P Q w E (undo n) h = tt
once_weaken P Q w E (stop n) h = tt
once_weaken P Q w E (look k) h = λ b. once_weaken P Q w E (k b) (h b)
once_weaken P Q w E (act p r) h = (h.0, once_weaken P Q w (E ++ emits p) r h.1)
once_weaken P Q w E (turn r) h = once_weaken P Q w E r h

once_cond : {A : Type 0} (P : List ℕ → A → Type 0) (E : List ℕ) (t : Bool) (x y : Rule A) → (t ≡ true → OnceTo P E x) → (t ≡ false → OnceTo P E y) → OnceTo P E (cond t x y)
once_cond P E true x y h k = h refl
once_cond P E false x y h k = k refl

-- ---- what such rules hand out
abbrev FreshIn : {A : Type 0} → List ℕ → Outcome Book A → Type 0
FreshIn E (ended b xs a) = Fresh E xs
FreshIn E (undone n) = Unit {0}
FreshIn E (stopped b xs n) = Fresh E xs

not_in_more : (x : ℕ) (E F : List ℕ) → elemb x (E ++ F) ≡ false → elemb x E ≡ false
not_in_more x E F h = (or-false (elemb x E) (elemb x F) (sym (elem_append x E F) ∙ h)).0

-- fewer ids are forbidden
fresh_fewer : (E F : List ℕ) → ((y : ℕ) → elemb y F ≡ false → elemb y E ≡ false) → (xs : List DrainedSubmission) → Fresh F xs → Fresh E xs
fresh_fewer E F less [] h = tt
fresh_fewer E F less (x ∷ xs) h = (less x.id.0 h.0, fresh_fewer (E ++ x.id.0 ∷ []) (F ++ x.id.0 ∷ []) more xs h.1)
  where
    more : (y : ℕ) → elemb y (F ++ x.id.0 ∷ []) ≡ false → elemb y (E ++ x.id.0 ∷ []) ≡ false
    more y k =
        let t = or-false (elemb y F) (elemb y (x.id.0 ∷ [])) (sym (elem_append y F (x.id.0 ∷ [])) ∙ k) in
        elem_append y E (x.id.0 ∷ []) ∙ ap (λ (b : Bool). b || elemb y (x.id.0 ∷ [])) (less y t.0) ∙ t.1

fresh_silent : {A : Type 0} (E F : List ℕ) (t : Bool) (k : Outcome Book A) → FreshIn (E ++ F) k → FreshIn E (guarded t (logged [] k))
fresh_silent E F true k h = tt
fresh_silent E F false (ended b xs a) h = fresh_fewer E (E ++ F) (λ y. not_in_more y E F) xs h
fresh_silent E F false (undone n) h = tt
fresh_silent E F false (stopped b xs n) h = fresh_fewer E (E ++ F) (λ y. not_in_more y E F) xs h

fresh_one : {A : Type 0} (E : List ℕ) (t : Bool) (x : DrainedSubmission) (k : Outcome Book A) → elemb x.id.0 E ≡ false → FreshIn (E ++ x.id.0 ∷ []) k → FreshIn E (guarded t (logged (x ∷ []) k))
fresh_one E true x k n h = tt
fresh_one E false x (ended b xs a) n h = (n, h)
fresh_one E false x (undone m) n h = tt
fresh_one E false x (stopped b xs m) n h = (n, h)

fresh_emit : {A : Type 0} (E : List ℕ) (i : ℕ) (g : SubmissionDeliveryGoal) (b : Book) (t : Bool) (k : Outcome Book A) → elemb i E ≡ false → FreshIn (E ++ i ∷ []) k → FreshIn E (guarded t (logged (emit_book i g b).out k))
unfolding emit_book handed
fresh_emit {A} E i g b t k n h = go (pick id_of i b.submitted) refl
  where
    go : (ts : List SubmittedTx) → pick id_of i b.submitted ≡ ts → FreshIn E (guarded t (logged (emit_to i g b ts).out k))
    go [] q = fresh_silent E (i ∷ []) t k h
    go (s ∷ ts) q =
        let e : i ≡ id_of s = sym (picked_key id_of i b.submitted q) in
        fresh_one E t (handed b.next_token.0 g s.entry (taken s.slots)) k (subst (λ (j : ℕ). elemb j E ≡ false) e n) (subst (λ (j : ℕ). FreshIn (E ++ j ∷ []) k) e h)

fresh_run : {A : Type 0} (P : List ℕ → A → Type 0) (E : List ℕ) (r : Rule A) (b : Book) → OnceTo P E r → FreshIn E (run_book r b)
unfolding run on_book
fresh_run P E (done a) b h = tt
fresh_run P E (undo n) b h = tt
fresh_run P E (stop n) b h = tt
fresh_run P E (look k) b h = fresh_run P E (k b) b (h b)
fresh_run P E (act (note n) r) b h = fresh_silent E [] (lengthens n && full (note_book n b)) (run_book r (note_book n b)) (fresh_run P (E ++ []) r (note_book n b) h.1)
fresh_run P E (act (revise i v) r) b h = fresh_silent E [] false (run_book r (revise_book i v b)) (fresh_run P (E ++ []) r (revise_book i v b) h.1)
fresh_run P E (act (retain p) r) b h = fresh_silent E [] (full (retain_book p b)) (run_book r (retain_book p b)) (fresh_run P (E ++ []) r (retain_book p b) h.1)
fresh_run P E (act (emit i g) r) b h = fresh_emit E i g b false (run_book r (emit_book i g b).after) h.0 (fresh_run P (E ++ i ∷ []) r (emit_book i g b).after h.1)
fresh_run P E (act (remove i) r) b h = fresh_silent E [] false (run_book r (remove_book i b)) (fresh_run P (E ++ []) r (remove_book i b) h.1)
fresh_run P E (act (set_aside i) r) b h = fresh_silent E [] false (run_book r (mark_book slots_aside i b)) (fresh_run P (E ++ []) r (mark_book slots_aside i b) h.1)
fresh_run P E (act (finalise i v) r) b h = fresh_silent E [] false (run_book r (mark_book (slots_final v) i b)) (fresh_run P (E ++ []) r (mark_book (slots_final v) i b) h.1)
fresh_run P E (act (replay i) r) b h = fresh_silent E [] false (run_book r (replay_book i b)) (fresh_run P (E ++ []) r (replay_book i b) h.1)
fresh_run P E (turn r) b h = fresh_run P E r b h

-- ---- the drain: the ids so far are those that it remembers
abbrev Remembered : List ℕ → Memory → Type 0
Remembered E a = E ≡ a.emitted

once_deliver : (E : List ℕ) (i : ℕ) (g : SubmissionDeliveryGoal) (a : Memory) → E ≡ a.emitted → OnceTo Remembered E (deliver i g a)
unfolding deliver
once_deliver E i g a e = once_cond Remembered E (elemb i a.emitted) _ _ (λ q. e)
    (λ q b. once_cond Remembered E (eqb b.next_token.0 last64) _ _ (λ r. tt) (λ r. (subst (λ (F : List ℕ). elemb i F ≡ false) (sym e) q, ap (λ (F : List ℕ). F ++ i ∷ []) e)))

nil : (E : List ℕ) (a : Memory) → E ≡ a.emitted → E ++ [] ≡ a.emitted
nil E a e = append-nil E ∙ e

once_known : (E : List ℕ) (n : ℕ) (c : PendingDelivery) (f : List ℕ) (t : SubmittedTx) (a : Memory) (m : Option DrainFailureCause) → E ≡ a.emitted → OnceTo Remembered E (known_by n c f t a m)
unfolding met withdraw
once_known E n c f t a None e = (tt, once_cond Remembered (E ++ []) (wanted c.goal t.entry) _ _ (λ q. once_deliver (E ++ []) (id_of t) c.goal a (nil E a e)) (λ q. nil E a e))
once_known E n c f t a (Some m) e = (tt, (tt, nil (E ++ []) a (nil E a e)))

once_unknown : (E : List ℕ) (n : ℕ) (c : PendingDelivery) (f : List ℕ) (b : Book) (a : Memory) → E ≡ a.emitted → OnceTo Remembered E (unknown n c f b a)
unfolding unknown
once_unknown E n c f b a e =
    once_cond Remembered E (elemb b.next_id.0 (map id_of b.submitted)) _ _ (λ q. e)
    (λ q. once_cond Remembered E (not (readable_bundle c.intent.bundle)) _ _ (λ r. e)
    (λ r. once_cond Remembered E (eqb b.next_id.0 last64) _ _ (λ s. e) (λ s. (tt, once_deliver (E ++ []) b.next_id.0 c.goal a (nil E a e)))))

once_named : (E : List ℕ) (n : ℕ) (c : PendingDelivery) (f : List ℕ) (i : ℕ) (a : Memory) (ts : List SubmittedTx) → E ≡ a.emitted → OnceTo Remembered E (named n c f i a ts)
unfolding known
once_named E n c f i a [] e = e
once_named E n c f i a (t ∷ ts) e = once_known E n c f t a (miss_of c.intent f t.entry) e

once_unnamed : (E : List ℕ) (n : ℕ) (c : PendingDelivery) (f : List ℕ) (b : Book) (a : Memory) (ts : List SubmittedTx) → E ≡ a.emitted → OnceTo Remembered E (unnamed n c f b a ts)
unfolding known
once_unnamed E n c f b a [] e = once_unknown E n c f b a e
once_unnamed E n c f b a (t ∷ ts) e = once_known E n c f t a (miss_of c.intent f t.entry) e

once_planned : (E : List ℕ) (n : ℕ) (c : PendingDelivery) (f : List ℕ) (b : Book) (a : Memory) (i : Option SubmissionId) → E ≡ a.emitted → OnceTo Remembered E (planned_by n c f b a i)
once_planned E n c f b a None e = once_unnamed E n c f b a (filter (λ t. eqs t.entry.intent.intent_fingerprint f) b.submitted) e
once_planned E n c f b a (Some i) e = once_named E n c f i.0 a (pick id_of i.0 b.submitted) e

Ended : List ℕ → List SubmissionDrainFailure → Type 0
Ended E v = Unit {0}

once_candidates : (E : List ℕ) (n : ℕ) (cs : List PendingDelivery) (a : Memory) → E ≡ a.emitted → OnceTo Ended E (candidates n cs a)
unfolding candidates one_candidate candidate Ended
once_candidates E n [] a e = tt
once_candidates E n (c ∷ cs) a e =
    once_bind Ended E (one_candidate n c a) (λ a'. turn (candidates (suc n) cs a'))
    (once_weaken Remembered (λ F a'. OnceTo Ended F (candidates (suc n) cs a')) (λ F a' q. once_candidates F (suc n) cs a' q) E (one_candidate n c a)
    (once_cond Remembered E (is_one_of c.intent.id a.removed) _ _ (λ q. e) (λ q b. once_planned E n c (intent_of c.intent) b a c.intent.id e)))

-- no id is in what a drain hands out twice
pub emitted_once : (b : Book) → Fresh [] (issued_by (run_book drain b))
unfolding drain
emitted_once b = go (run_book drain b) (fresh_run Ended [] drain b (λ b'. (tt, once_candidates [] 0 b'.pending blank refl)))
  where
    go : (k : Outcome Book (List SubmissionDrainFailure)) → FreshIn [] k → Fresh [] (issued_by k)
    go (ended b' xs v) h = h
    go (undone n) h = tt
    go (stopped b' xs n) h = h
