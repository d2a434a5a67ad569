-- Theorems on specs/Said.antt.
use Rattle.std.specs.Prelude.{ℕ, suc, ◌+◌, ◌≤◌, Bool, true, false, not, ◌&&◌, ◌≡◌, length}
use mathlib.Core.List.{List, [], ◌∷◌, map}
use Rattle.std.specs.Prelude.{Option, None, Some}
use native.Mathlib.Omega.{arith}
use Rattle.std.proofs.Math.Dec.{eqb}
use Rattle.std.proofs.Common.{length-append}
use Rattle.base_lists.specs.Bytes.{eqs}
use Rattle.base_lists.specs.Lists.{elemb}
use Rattle.std.specs.List.{filter}
use Rattle.book.specs.declared.SubmittedTx.{SubmittedTx}
use Rattle.book.specs.declared.PendingDelivery.{PendingDelivery}
use Rattle.book.specs.declared.SubmissionId.{SubmissionId}
use Rattle.book.specs.declared.SubmissionDeliveryGoal.{SubmissionDeliveryGoal}
use Rattle.book.specs.Model.{Book}
use Rattle.book.specs.Sound.{readable_bundle, id_of}
use Rattle.archive_laws.specs.Cells.{every_append}
use Rattle.book_answers.specs.declared.DrainFailureCause.{DrainFailureCause}
use Rattle.book_answers.specs.declared.DrainFailureCause.TheVariants.{NoRetainedState, IdCollides, OutputsUnreadable, IdsExhausted}
use Rattle.book_answers.specs.declared.DrainedSubmission.{DrainedSubmission}
use Rattle.book_answers.specs.declared.SubmissionDrainFailure.{SubmissionDrainFailure}
use Rattle.rules.specs.Keyed.{pick}
use Rattle.rules.specs.Parts.{intent_of}
use Rattle.rules.specs.Rule.{Step, note, revise, retain, emit, remove, set_aside, finalise, replay, Rule, done, undo, stop, look, act, turn, ◌>>=◌, Outcome, ended, undone, stopped, logged, guarded, grows, full, run}
use Rattle.rules.specs.Steps.{emit_to, emit_book, on_book, run_book}
use Rattle.rules.specs.Calls.Candidate.{deliver, met, known_by, known, unknown, named, unnamed, planned_by, candidate}
use Rattle.rules.specs.Calls.Common.{withdraw}
use Rattle.rules.specs.Calls.Drain.{is_one_of, one_candidate, candidates, drain}
use Rattle.rules.specs.Calls.Plan.{Memory, blank, with_emitted, with_removed, with_failure, last64, miss_of, wanted}
use Rattle.rules_typed.specs.Parts.{intent_typed}
use Rattle.rules_answers.specs.Said.{more, Says, SaidIn, says_cond, Prints, DrainSays, drain_says}

said_logged : {A : Type 0} (P : ℕ → A → Type 0) (k j : ℕ) (t : Bool) (xs : List DrainedSubmission) (o : Outcome Book A) → k + length xs ≤ j → SaidIn P j o → SaidIn P k (guarded t (logged xs o))
said_logged P k j true xs o h s = tt
said_logged P k j false xs (ended m ys a) h s = (s.0, (s.1.0, omega (arith, s.1.1, length-append xs ys)))
said_logged P k j false xs (undone n) h s = tt
said_logged P k j false xs (stopped m ys n) h s = tt

step_out : (p : Step) (b : Book) (k : ℕ) → k + length (on_book p b).out ≤ more p k
unfolding on_book emit_book
step_out (note n) b k = omega arith
step_out (revise i r) b k = omega arith
step_out (retain p) b k = omega arith
step_out (emit i g) b k = go (pick id_of i b.submitted)
  where
    go : (ts : List SubmittedTx) → k + length (emit_to i g b ts).out ≤ suc k
    go [] = omega arith
    go (t ∷ ts) = omega arith
step_out (remove i) b k = omega arith
step_out (set_aside i) b k = omega arith
step_out (finalise i v) b k = omega arith
step_out (replay i) b k = omega arith

pub says_run : {A : Type 0} (P : ℕ → A → Type 0) (k : ℕ) (r : Rule A) (b : Book) → Says P k b r → SaidIn P k (run_book r b)
unfolding run
says_run P k (done a) b h = (k, (h, omega arith))
says_run P k (undo n) b h = tt
says_run P k (stop n) b h = tt
says_run P k (look f) b h = says_run P k (f b) b h
says_run P k (act p r) b h =
    let c = (on_book p b).after in
    said_logged P k (more p k) (grows p && full c) (on_book p b).out (run_book r c) (step_out p b k) (says_run P (more p k) r c (h c))
says_run P k (turn r) b h = says_run P k r b h

says_bind : {A B : Type 0} (P : ℕ → B → Type 0) (k : ℕ) (m : Rule A) (f : A → Rule B) (b : Book) → Says (λ j a. (c : Book) → Says P j c (f a)) k b m → Says P k b (m >>= f)
says_bind P k (done a) f b h = h b
says_bind P k (undo n) f b h = tt
says_bind P k (stop n) f b h = tt
says_bind P k (look g) f b h = says_bind P k (g b) f b h
says_bind P k (act p r) f b h = λ c. says_bind P (more p k) r f c (h c)
says_bind P k (turn r) f b h = says_bind P k r f b h

says_weaken : {A : Type 0} (P Q : ℕ → A → Type 0) → ((k : ℕ) (a : A) → P k a → Q k a) → (k : ℕ) (b : Book) (r : Rule A) → Says P k b r → Says Q k b r
says_weaken P Q f k b (done a) h = f k a h
says_weaken P Q f k b (undo n) h = tt
says_weaken P Q f k b (stop n) h = tt
says_weaken P Q f k b (look g) h = says_weaken P Q f k b (g b) h
says_weaken P Q f k b (act p r) h = λ c. says_weaken P Q f (more p k) c r (h c)
says_weaken P Q f k b (turn r) h = says_weaken P Q f k b r h

record Few (n k : ℕ) (a : Memory) : Type 0 where
  issued : k ≤ n
  failed : length a.failed ≤ n
  prints : Prints a.failed

few_more : {n k : ℕ} {a : Memory} → Few n k a → Few (suc n) k a
few_more h = record { issued = omega (arith, h.issued); failed = omega (arith, h.failed); prints = h.prints }

few_emitted : {n k : ℕ} {a : Memory} (i : ℕ) → Few n k a → Few (suc n) (suc k) (with_emitted i a)
few_emitted i h = record { issued = omega (arith, h.issued); failed = omega (arith, h.failed); prints = h.prints }

few_removed : {n k : ℕ} {a : Memory} (i : ℕ) → Few n k a → Few n k (with_removed i a)
few_removed i h = record { issued = h.issued; failed = h.failed; prints = h.prints }

few_failed : {n k : ℕ} {a : Memory} (x : ℕ) (m : DrainFailureCause) (i : ℕ) (f : List ℕ) → length f ≡ 32 → Few n k a → Few (suc n) k (with_failure x m i f a)
few_failed {n} {k} {a} x m i f e h =
    let g : SubmissionDrainFailure = record { candidate_index = x; cause = m; candidate_id = record { 0 = i }; intent_fingerprint = f } in
    record {
      issued = omega (arith, h.issued);
      failed = omega (arith, h.failed, length-append a.failed (g ∷ []));
      prints = every_append (λ (y : SubmissionDrainFailure). length y.intent_fingerprint ≡ 32) a.failed (g ∷ []) h.prints (e, tt);
    }

module _ (n : ℕ) where
  few_deliver : (i : ℕ) (g : SubmissionDeliveryGoal) (k : ℕ) (a : Memory) (b : Book) → Few n k a → Says (Few (suc n)) k b (deliver i g a)
  unfolding deliver
  few_deliver i g k a b h =
      says_cond (Few (suc n)) k b (elemb i a.emitted) _ _ (few_more h) (says_cond (Few (suc n)) k b (eqb b.next_token.0 last64) _ _ tt (λ c. few_emitted i h))

  module _ (c : PendingDelivery) (f : List ℕ) (e : length f ≡ 32) (k : ℕ) (a : Memory) (h : Few n k a) where
    few_known : (t : SubmittedTx) (m : Option DrainFailureCause) (b : Book) → Says (Few (suc n)) k b (known_by n c f t a m)
    unfolding met withdraw
    few_known t None b = λ d. says_cond (Few (suc n)) k d (wanted c.goal t.entry) _ _ (few_deliver (id_of t) c.goal k a d h) (few_more h)
    few_known t (Some m) b = λ d d'. few_failed n m (id_of t) f e (few_removed (id_of t) h)

    few_unknown : (b : Book) → Says (Few (suc n)) k b (unknown n c f b a)
    unfolding unknown
    few_unknown b =
        says_cond (Few (suc n)) k b (elemb b.next_id.0 (map id_of b.submitted)) _ _ (few_failed n IdCollides b.next_id.0 f e h)
        (says_cond (Few (suc n)) k b (not (readable_bundle c.intent.bundle)) _ _ (few_failed n OutputsUnreadable b.next_id.0 f e h)
        (says_cond (Few (suc n)) k b (eqb b.next_id.0 last64) _ _ (few_failed n IdsExhausted b.next_id.0 f e h)
        (λ d. few_deliver b.next_id.0 c.goal k a d h)))

    few_planned : (b : Book) (i : Option SubmissionId) → Says (Few (suc n)) k b (planned_by n c f b a i)
    unfolding known
    few_planned b None = go (filter (λ t. eqs t.entry.intent.intent_fingerprint f) b.submitted)
      where
        go : (ts : List SubmittedTx) → Says (Few (suc n)) k b (unnamed n c f b a ts)
        go [] = few_unknown b
        go (t ∷ ts) = few_known t (miss_of c.intent f t.entry) b
    few_planned b (Some i) = go (pick id_of i.0 b.submitted)
      where
        go : (ts : List SubmittedTx) → Says (Few (suc n)) k b (named n c f i.0 a ts)
        go [] = few_failed n NoRetainedState i.0 f e h
        go (t ∷ ts) = few_known t (miss_of c.intent f t.entry) b

few_candidates : (n k : ℕ) (cs : List PendingDelivery) (a : Memory) (b : Book) → Few n k a → n + length cs ≤ 16 → Says DrainSays k b (candidates n cs a)
unfolding candidates one_candidate candidate
few_candidates n k [] a b h s = drain_says a.failed (omega (arith, h.issued)) (omega (arith, h.failed)) h.prints
few_candidates n k (c ∷ cs) a b h s =
    says_bind DrainSays k (one_candidate n c a) (λ m. turn (candidates (suc n) cs m)) b
    (says_weaken (Few (suc n)) (λ j m. (d : Book) → Says DrainSays j d (turn (candidates (suc n) cs m))) (λ j m g d. few_candidates (suc n) j cs m d g (omega arith)) k b (one_candidate n c a)
    (says_cond (Few (suc n)) k b (is_one_of c.intent.id a.removed) _ _ (few_more h) (few_planned n c (intent_of c.intent) (intent_typed c.intent).long k a h b c.intent.id)))

pub drain_few : (b : Book) → length b.pending ≤ 16 → Says DrainSays 0 b drain
unfolding drain
drain_few b h = λ c. few_candidates 0 0 b.pending blank c (record { issued = omega arith; failed = omega arith; prints = tt }) (omega arith)
