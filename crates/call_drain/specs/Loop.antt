-- The loop of a drain: what is done and what is left make the whole.
use Rattle.std.specs.Prelude.{ℕ, suc, ◌+◌, ◌≤◌, ◌<◌, Bool, true, false, ◌≡◌, eqb, length, drop, get_or, set, Ok}
use Rattle.std.proofs.Common.{sym, ◌∙◌, add-one, eqb-true}
use mathlib.Core.List.{List, [], ◌∷◌, ◌++◌, append-nil}
use Rattle.std.proofs.Math.Path.{refl, ap, subst}
use native.Mathlib.Omega.{arith}
use Rattle.std.proofs.lemmas.Bool.{eqb-false}
use Rattle.base_lists.specs.Lists.{cells}
use Rattle.std.specs.List.{list_all}
use Rattle.base_lists.specs.Laws.{and_split, take_cells, counted_step, counted_end}
use Rattle.part_ids.specs.Counted.{counted_set, counted_push}
use Rattle.book.specs.Zero.{zero_submitted}
use Rattle.book.specs.Model.{Book, view, back, id_list}
use Rattle.book.specs.Sound.{sound_delivery, soundb}
use Rattle.book.specs.SoundLaws.{sound_lists_lem, Counted}
use Rattle.book.specs.declared.BookData.{BookData}
use Rattle.book.specs.declared.PendingDelivery.{PendingDelivery}
use Rattle.book_answers.specs.declared.SubmissionDrainFailure.{SubmissionDrainFailure}
use Rattle.book_answers.specs.declared.DrainedSubmission.{DrainedSubmission}
use Rattle.rules.specs.Rule.{Rule, turn, note, unqueue_all, Outcome, ended, undone, logged, run, left, followed, run_bind, logged_logged}
use Rattle.rules.specs.Steps.{on_book, note_book, run_book}
use Rattle.rules.specs.Calls.Plan.{Memory, blank}
use Rattle.rules.specs.Calls.Drain.{one_candidate, candidates, drain}
use Rattle.rules_laws.specs.Sound.Run.{SoundBook, sound_left}
use Rattle.part_lookup.specs.Normal.{Normal, sizes, submitted_are}
use Rattle.part_change.specs.Parts.{submitted_back}
use Rattle.part_sound_laws.specs.Holds.{Holds, holds_sound, holds_view, holds_normal, holds_quiet}
use Rattle.part_replies.specs.declared.Reply.{Reply}
use Rattle.part_drain_answers.specs.DrainReply.{drain_reply, drained_of}
use Rattle.part_drain_answers.specs.declared.Drained.{Drained}
use Rattle.part_plan.specs.declared.PlanAction.{PlanAction}
use Rattle.part_plan.specs.declared.PlanAction.TheVariants.{Passed, Failed, Removed, Stored, Issued}
use Rattle.part_plan.specs.declared.PlanAnswer.{PlanAnswer}
use Rattle.part_plan.specs.declared.PlanAnswer.TheVariants.{Full, Exhausted, Planned}
use Rattle.part_plan.specs.declared.SubmissionPlanDelta.{SubmissionPlanDelta}
use Rattle.call_drain.specs.declared.DrainAnswers.{DrainAnswers}
use Rattle.call_drain.specs.ListLaws.{put_at, put_set, put_end}
use Rattle.call_drain.specs.Planned.{candidate_plan}
use Rattle.call_drain.specs.Carried.{placed, book_by, memory_by, drained_in, planned_outcome, InPlace, FitsBy, AnswerFits, stored_in, carried_by}
use Rattle.call_drain.specs.Answers.{answers_of, answers_by, Room, room, Few, few_more, after_is}
use Rattle.call_drain.specs.Rules.{Carries, one_carries}
use Rattle.book.specs.declared.refusal.Refusal.TheVariants as refusals

-- ---- the cells that a plan leaves
module _ (b : BookData) (h : Normal b) where
  put_counted : (p : SubmissionPlanDelta) → InPlace p.place (view b)
      → Counted 16 zero_submitted p.place.count (set b.submitted p.place.index p.tx) (put_at p.place.index p.tx (view b).submitted)
  put_counted p f = record { count = f.counts p.tx; held = by_end (eqb p.place.index (length (view b).submitted)) refl }
    where
      by_end : (u : Bool) → eqb p.place.index (length (view b).submitted) ≡ u
          → set b.submitted p.place.index p.tx ≡ cells 16 zero_submitted (put_at p.place.index p.tx (view b).submitted)
      by_end true e =
          let q : p.place.index ≡ length (view b).submitted = eqb-true p.place.index (length (view b).submitted) e in
          let n : b.submitted_count ≡ length (view b).submitted = (submitted_are b h).count in
          let l = f.below in
          ap (λ (k : ℕ). set b.submitted k p.tx) (q ∙ sym n)
          ∙ (counted_push (submitted_are b h) p.tx (omega arith)).held
          ∙ ap (cells 16 zero_submitted) (sym (put_end p.tx (view b).submitted) ∙ ap (λ (k : ℕ). put_at k p.tx (view b).submitted) (sym q))
      by_end false e =
          let q = eqb-false p.place.index (length (view b).submitted) e in
          let w = f.within in
          let l : p.place.index < length (view b).submitted = omega (arith, q) in
          (counted_set (submitted_are b h) p.place.index p.tx l).held
          ∙ ap (cells 16 zero_submitted) (sym (put_set p.place.index p.tx (view b).submitted l))

  stored_is : (p : SubmissionPlanDelta) → InPlace p.place (view b) → stored_in p b ≡ back (placed p.place p.tx (view b))
  stored_is p f =
      submitted_back b h p.place.next_token p.place.next_id p.place.count (set b.submitted p.place.index p.tx)
      (put_at p.place.index p.tx (view b).submitted) (put_counted p f)

  carried_view : (k : PlanAction) (p : SubmissionPlanDelta) → FitsBy k p (view b) → carried_by k p b ≡ back (book_by k p (view b))
  carried_view Passed p f = h.held
  carried_view Failed p f = h.held
  carried_view Removed p f = refl
  carried_view Stored p f = stored_is p f
  carried_view Issued p f = stored_is p f

carried_is : {b : BookData} {m : Book} → Holds b m → (k : PlanAction) (p : SubmissionPlanDelta) → FitsBy k p m → carried_by k p b ≡ back (book_by k p m)
carried_is {b} {m} h k p f =
    carried_view b (holds_normal h) k p (subst (FitsBy k p) (sym (holds_view h)) f) ∙ ap (λ (x : Book). back (book_by k p x)) (holds_view h)

-- ---- the whole
abbrev pub whole : BookData → Reply Drained BookData
whole b = drain_reply b (run_book drain (view b))

-- the drain of b stands at i: the book and the answers so far, and what is left
pub record Running (b book : BookData) (answers : DrainAnswers) (i : ℕ) : Type 0 where
  pub m : Book
  pub xs : List DrainedSubmission
  pub a : Memory
  pub holds : Holds book m
  pub held : answers ≡ answers_of xs a
  pub few : Few i xs a
  pub queue : list_all sound_delivery (drop i (view b).pending) ≡ true
  pub rest : whole b ≡ drain_reply b (logged xs (run_book (candidates i (drop i (view b).pending) a) m))

-- the queue is emptied
module _ (b : BookData) (s : soundb b ≡ true) where
  emptied : run_book drain (view b) ≡ logged [] (run_book (candidates 0 (view b).pending blank) (note_book unqueue_all (view b)))
  unfolding drain run on_book
  emptied = refl

  pub starts : {book : BookData} → book ≡ back (note_book unqueue_all (view b)) → {answers : DrainAnswers} → answers ≡ answers_of [] blank → Running b book answers 0
  unfolding on_book
  starts {book} e {answers} h = record {
    m = note_book unqueue_all (view b);
    xs = [];
    a = blank;
    holds = holds_quiet (holds_sound b s) (note unqueue_all) refl e;
    held = h;
    few = record { emitted = omega arith; removed = omega arith; failed = omega arith; issued = omega arith };
    queue = (sound_lists_lem (view b) (holds_sound b s).sound.lists).pending;
    rest = ap (drain_reply b) emptied;
  }

-- the candidate can be planned, and its answers have room
pub running_room : {b book : BookData} {answers : DrainAnswers} {i : ℕ} → Running b book answers i → i < 16 → Room answers
running_room v l = room v.xs v.a v.held v.few l

pub ready : {b book : BookData} {answers : DrainAnswers} {i : ℕ} → Running b book answers i → i < 16
    → Normal book × (answers.emitted.count ≤ 16) × (answers.removed.count ≤ 16)
ready v l =
    let r = running_room v l in
    let e = r.emitted.0 in
    let g = r.removed.0 in
    (holds_normal v.holds, omega arith, omega arith)

-- ---- one candidate
module _ {b book : BookData} {answers : DrainAnswers} {i : ℕ} (v : Running b book answers i) (c : PendingDelivery)
    (step : drop i (view b).pending ≡ c ∷ drop (i + 1) (view b).pending) (p : SubmissionPlanDelta)
    (plan : p ≡ candidate_plan (view book) (id_list answers.emitted) (id_list answers.removed) i c) where
  plan_is : p ≡ candidate_plan v.m v.a.emitted v.a.removed i c
  plan_is =
      let e : id_list answers.emitted ≡ v.a.emitted = ap (λ (d : DrainAnswers). id_list d.emitted) v.held ∙ take_cells 16 0 v.a.emitted in
      let r : id_list answers.removed ≡ v.a.removed = ap (λ (d : DrainAnswers). id_list d.removed) v.held ∙ take_cells 16 0 v.a.removed in
      plan ∙ (λ j. candidate_plan (holds_view v.holds j) (e j) (r j) i c)

  sounds : (sound_delivery c ≡ true) × (list_all sound_delivery (drop (i + 1) (view b).pending) ≡ true)
  sounds = and_split (sound_delivery c) (list_all sound_delivery (drop (i + 1) (view b).pending)) (sym (ap (list_all sound_delivery) step) ∙ v.queue)

  carries : Carries (run_book (one_candidate i c v.a) v.m) p v.a v.m
  unfolding sound_delivery
  carries = subst (λ (q : SubmissionPlanDelta). Carries (run_book (one_candidate i c v.a) v.m) q v.a v.m) (sym plan_is)
      (one_carries v.m v.holds.sound c sounds.0 v.a i)

  pub plan_fits : AnswerFits p.answer p (view book)
  plan_fits = subst (AnswerFits p.answer p) (sym (holds_view v.holds)) carries.fits

  pub planned_fits : {k : PlanAction} → p.answer ≡ Planned k → FitsBy k p (view book)
  planned_fits e = subst (λ (x : PlanAnswer). AnswerFits x p (view book)) e plan_fits

  -- where no token is left, the submission goes into a cell of the book
  place_fits : p.answer ≡ Exhausted → InPlace p.place (view book)
  place_fits e = subst (λ (x : PlanAnswer). AnswerFits x p (view book)) e plan_fits

  pub store_below : p.answer ≡ Exhausted → (p.place.index < 16) × (length book.submitted ≡ 16)
  store_below e = ((place_fits e).below, (sizes book (holds_normal v.holds)).submitted_long)

  abbrev more : Memory → Rule (List SubmissionDrainFailure)
  more a = turn (candidates (suc i) (drop (i + 1) (view b).pending) a)

  cut : whole b ≡ drain_reply b (logged v.xs (followed (λ x. x) on_book more (planned_outcome p.answer p v.a v.m)))
  unfolding candidates
  cut =
      v.rest
      ∙ ap (λ (l : List PendingDelivery). drain_reply b (logged v.xs (run_book (candidates i l v.a) v.m))) step
      ∙ ap (λ (o : Outcome Book (List SubmissionDrainFailure)). drain_reply b (logged v.xs o)) (run_bind (λ x. x) on_book (one_candidate i c v.a) more v.m)
      ∙ ap (λ (o : Outcome Book Memory). drain_reply b (logged v.xs (followed (λ x. x) on_book more o))) carries.outcome

  -- the book left is sound
  left_sound : SoundBook (left v.m (planned_outcome p.answer p v.a v.m))
  left_sound = subst (λ (o : Outcome Book Memory). SoundBook (left v.m o)) carries.outcome (sound_left (one_candidate i c v.a) v.m v.holds.sound)

  -- 10, the book as it was; 11, the book so far with the submission
  over : {x : PlanAnswer} → p.answer ≡ x → whole b ≡ drain_reply b (logged v.xs (followed (λ x. x) on_book more (planned_outcome x p v.a v.m)))
  over e = cut ∙ ap (λ (y : PlanAnswer). drain_reply b (logged v.xs (followed (λ x. x) on_book more (planned_outcome y p v.a v.m)))) e

  pub full_over : p.answer ≡ Full → drain_reply b (undone refusals.Full) ≡ whole b
  full_over e = sym (over e)

  pub token_over : p.answer ≡ Exhausted → drain_reply (stored_in p book) (undone refusals.NoToken) ≡ whole b
  token_over e =
      let q : stored_in p book ≡ back (placed p.place p.tx v.m) =
      stored_is book (holds_normal v.holds) p (place_fits e) ∙ ap (λ (m : Book). back (placed p.place p.tx m)) (holds_view v.holds) in
      ap (λ (y : BookData). drain_reply y (undone refusals.NoToken)) q ∙ sym (over e)

  -- the candidate is planned
  pub turned : {k : PlanAction} → p.answer ≡ Planned k → i < 16 → {next : BookData} → next ≡ carried_by k p book
      → {after : DrainAnswers} → after ≡ answers_by k p answers → Running b next after (i + 1)
  unfolding run
  turned {k} e l {next} h {after} q =
      let o : planned_outcome p.answer p v.a v.m ≡ ended (book_by k p v.m) (drained_in k p) (memory_by k p v.a) = ap (λ (y : PlanAnswer). planned_outcome y p v.a v.m) e in
      let f = subst (λ (y : PlanAnswer). AnswerFits y p v.m) e carries.fits in
      record {
        m = book_by k p v.m;
        xs = v.xs ++ drained_in k p;
        a = memory_by k p v.a;
        holds = record { cells = h ∙ carried_is v.holds k p f; sound = subst (λ (x : Outcome Book Memory). SoundBook (left v.m x)) o left_sound };
        held = q ∙ after_is p v.xs v.a k v.held (let k = v.few.issued in omega arith) (let k = v.few.failed in omega arith);
        few = few_more p v.xs v.a k v.few;
        queue = sounds.1;
        rest =
            cut
            ∙ ap (λ (x : Outcome Book Memory). drain_reply b (logged v.xs (followed (λ x. x) on_book more x))) o
            ∙ ap (drain_reply b) (logged_logged v.xs (drained_in k p) (run_book (more (memory_by k p v.a)) (book_by k p v.m)))
            ∙ ap (λ (n : ℕ). drain_reply b (logged (v.xs ++ drained_in k p) (run_book (candidates n (drop (i + 1) (view b).pending) (memory_by k p v.a)) (book_by k p v.m)))) (sym (add-one i));
      }

-- no candidate is left
pub ends : {b book : BookData} {answers : DrainAnswers} {i : ℕ} → Running b book answers i → drop i (view b).pending ≡ [] → record { answer = Ok answers.drained; book = book } ≡ whole b
unfolding candidates run
ends {b} {book} {answers} {i} v e =
    ap (λ (d : DrainAnswers). reply_with book d.drained) v.held
    ∙ ap (λ (x : BookData). reply_with x (drained_of v.xs v.a.failed)) v.holds.cells
    ∙ ap (λ (ys : List DrainedSubmission). drain_reply b (ended v.m ys v.a.failed)) (sym (append-nil v.xs))
    ∙ sym (v.rest ∙ ap (λ (l : List PendingDelivery). drain_reply b (logged v.xs (run_book (candidates i l v.a) v.m))) e)
  where
    reply_with : BookData → Drained → Reply Drained BookData
    reply_with x d = record { answer = Ok d; book = x }

-- ---- the queue that the loop goes through
module _ (b : BookData) (s : soundb b ≡ true) where
  normal : Normal b
  normal = holds_normal (holds_sound b s)

  pub queue_step : (i : ℕ) (d : PendingDelivery) → i < b.pending_count → drop i (view b).pending ≡ get_or b.pending_deliveries i d ∷ drop (i + 1) (view b).pending
  unfolding view
  queue_step i d l =
      let z = sizes b normal in
      let k = z.pending in
      let e = z.pending_long in
      counted_step b.pending_deliveries b.pending_count i d l (omega arith)

  pub queue_end : (i : ℕ) → b.pending_count ≤ i → drop i (view b).pending ≡ []
  unfolding view
  queue_end i l =
      let z = sizes b normal in
      let k = z.pending in
      let e = z.pending_long in
      counted_end b.pending_deliveries b.pending_count i l (omega arith)

  pub queue_count : b.pending_count ≤ 16
  queue_count = (sizes b normal).pending
