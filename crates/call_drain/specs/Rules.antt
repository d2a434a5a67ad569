-- Carrying out the plan of a candidate is what its rules do, on every sound book.
use Rattle.std.specs.Prelude.{ℕ, suc, ◌<◌, Bool, ◌≡◌, eqb, ltb, get_or, set}
use Rattle.std.proofs.Math.Bool.{true, false, cond, not}
use mathlib.Core.List.{List, [], ◌∷◌, ◌++◌, map}
use Rattle.std.specs.Prelude.{Option, None, Some}
use Rattle.std.proofs.Math.Path.{refl, sym, ap, subst}
use Rattle.std.proofs.Common.{◌∙◌, add-one, arith, length-set, length-append}
use borrow.Author.Tests.{eqb-true, eqb-false, lt-ltb, le-ltb, ltb-false, not-false}
use Rattle.std.proofs.Math.ListN.{length}
use Rattle.base_lists.specs.Lists.{elemb, distinctb, push_new}
use Rattle.std.specs.List.{filter}
use Rattle.base_lists.specs.Laws.{and_both}
use Rattle.book.specs.Model.{Book}
use Rattle.book.specs.Zero.{zero_submitted}
use Rattle.book.specs.Sound.{id_of, sound_intent, readable_bundle}
use Rattle.book.specs.SoundLaws.{sound_lists_lem}
use Rattle.book.specs.declared.SubmissionDeliveryGoal.{SubmissionDeliveryGoal}
use Rattle.book.specs.declared.SubmissionId.{SubmissionId}
use Rattle.book.specs.declared.PendingDelivery.{PendingDelivery}
use Rattle.book.specs.declared.SubmittedTx.{SubmittedTx}
use Rattle.book_answers.specs.declared.DrainFailureCause.{DrainFailureCause}
use Rattle.book_answers.specs.declared.DrainFailureCause.TheVariants.{NoRetainedState, IdCollides, OutputsUnreadable, IdsExhausted}
use Rattle.book_answers.specs.declared.DrainedSubmission.{DrainedSubmission}
use Rattle.rules.specs.Keyed.{pick, change}
use Rattle.rules.specs.Parts.{current_fingerprint, intent_of}
use Rattle.rules.specs.Rule.{Rule, done, stop, look, act, note, retire, revise, retain, emit, remove, tighten, Effect, Outcome, ended, full, run}
use Rattle.rules.specs.Steps.{with_submitted, with_slots, note_book, revise_book, retainable, retained, retain_book, issue_book, emit_to, emit_book, remove_book, on_book, run_book}
use Rattle.rules.specs.Steps.Entry.{revised, new_entry}
use Rattle.rules.specs.Steps.Notes.{forgotten}
use Rattle.rules.specs.Steps.Slots.{issue_attempt, slots_issued, taken, handed}
use Rattle.rules.specs.Calls.Common.{withdraw}
use Rattle.rules.specs.Calls.Plan.{Memory, with_emitted, with_removed, with_failure, miss_of, wanted, last64}
use Rattle.rules.specs.Calls.Candidate.{deliver, met, known, known_by, unknown, named, unnamed, planned_by, candidate}
use Rattle.rules.specs.Calls.Drain.{is_one_of, one_candidate}
use Rattle.rules_laws.specs.Sound.Run.{SoundBook}
use Rattle.part_lookup.specs.Place.{has_id, has_intent, place_of}
use Rattle.part_lookup.specs.PlaceLaws.{at_first, first_filter, none_passes, pick_at, change_at}
use Rattle.std.specs.Prelude.{Option}
use Rattle.std.specs.Prelude.{Some, None}
use Rattle.part_change.specs.Changes.{stored_at}
use Rattle.part_change.specs.ChangeLaws.{revise_at}
use Rattle.part_sound_laws.specs.Acts.{act_full, act_silent}
use Rattle.part_sound_laws.specs.Holds.{sound_stepped}
use Rattle.part_sound_laws.specs.Room.{full_retire, full_retain}
use Rattle.book_answers.specs.Zero.{zero_failure}
use Rattle.part_plan.specs.declared.PlanAction.TheVariants.{Passed, Failed, Removed, Stored, Issued}
use Rattle.part_plan.specs.declared.PlanAnswer.TheVariants.{Full, Exhausted, Planned}
use Rattle.part_plan.specs.declared.SubmittedPlace.{SubmittedPlace}
use Rattle.part_plan.specs.declared.SubmissionPlanDelta.{SubmissionPlanDelta}
use Rattle.part_plan.specs.Plan.{failing, storing, failure_at, token_taken, issue_plan, deliver_plan, tightened_by, met_plan, removal_plan, known_plan_by, known_plan, new_submitted, id_taken, retain_plan, unknown_plan}
use Rattle.call_drain.specs.ListLaws.{put_at, put_set, put_end, put_within, get_put, set_put}
use Rattle.call_drain.specs.Planned.{place_on, found_plan, unnamed_plan, plan_by, candidate_plan}
use Rattle.call_drain.specs.Carried.{placed, planned_outcome, InPlace, AnswerFits}
use Rattle.book.specs.declared.refusal.Refusal.TheVariants as refusals

-- the rules come to what carrying out the plan q makes, and q can be carried out
pub record Carries (o : Outcome Book Memory) (q : SubmissionPlanDelta) (a : Memory) (m : Book) : Type 0 where
  pub outcome : o ≡ planned_outcome q.answer q a m
  pub fits : AnswerFits q.answer q m

carries_by : {o o' : Outcome Book Memory} {q : SubmissionPlanDelta} {a : Memory} {m : Book} → o ≡ o' → Carries o' q a m → Carries o q a m
carries_by e h = record { outcome = e ∙ h.outcome; fits = h.fits }

ids_of : {m : Book} → SoundBook m → distinctb (map id_of m.submitted) ≡ true
ids_of {m} s = (sound_lists_lem m s.lists).ids

-- ---- `deliver`, of the submission t in the place p
module _ (p : SubmittedPlace) (t : SubmittedTx) (g : SubmissionDeliveryGoal) (a : Memory) (m : Book) (fits : InPlace p m)
    (distinct : distinctb (map id_of (put_at p.index t m.submitted)) ≡ true) where
  got : get_or (put_at p.index t m.submitted) p.index zero_submitted ≡ t
  got = get_put t p.index m.submitted zero_submitted fits.within

  picked : pick id_of (id_of t) (put_at p.index t m.submitted) ≡ t ∷ []
  picked =
      pick_at id_of (put_at p.index t m.submitted) distinct (id_of t) p.index zero_submitted (put_within t p.index m.submitted fits.within) (ap id_of got)
      ∙ ap (λ (x : SubmittedTx). x ∷ []) got

  changed : (f : SubmittedTx → SubmittedTx) → change id_of (id_of t) f (put_at p.index t m.submitted) ≡ put_at p.index (f t) m.submitted
  changed f =
      change_at id_of (put_at p.index t m.submitted) distinct (id_of t) p.index zero_submitted (put_within t p.index m.submitted fits.within) (ap id_of got) f
      ∙ ap (λ (x : SubmittedTx). set (put_at p.index t m.submitted) p.index (f x)) got
      ∙ set_put t p.index m.submitted (f t) fits.within

  abbrev issued_tx : SubmittedTx
  issued_tx = with_slots (slots_issued (issue_attempt p.next_token.0 g (current_fingerprint t.entry))) t

  abbrev handed_out : DrainedSubmission
  handed_out = handed p.next_token.0 g t.entry (taken t.slots)

  emit_is : emit_book (id_of t) g (placed p t m) ≡ record { after = placed (token_taken p) issued_tx m; out = handed_out ∷ [] }
  unfolding emit_book issue_book
  emit_is =
      ap (emit_to (id_of t) g (placed p t m)) picked
      ∙ (λ i. record {
        after = record {
          next_token = record { 0 = sym (add-one p.next_token.0) i };
          next_id = p.next_id;
          submitted = changed (with_slots (slots_issued (issue_attempt p.next_token.0 g (current_fingerprint t.entry)))) i;
          pending = m.pending;
          retired = m.retired;
          rollback = m.rollback;
          replayed = m.replayed;
        };
        out = handed_out ∷ [];
      })

  emitted_is : run_book (act (emit (id_of t) g) (done (with_emitted (id_of t) a))) (placed p t m) ≡ planned_outcome (Planned Issued) (issue_plan p t g) a m
  unfolding run on_book issue_plan
  emitted_is = ap (λ (e : Effect Book). ended e.after (e.out ++ []) (with_emitted (id_of t) a)) emit_is

  issue_carries : Carries (run_book (act (emit (id_of t) g) (done (with_emitted (id_of t) a))) (placed p t m)) (issue_plan p t g) a m
  unfolding issue_plan
  issue_carries = record { outcome = emitted_is; fits = record { within = fits.within; below = fits.below; counts = fits.counts } }

  pub deliver_carries : Carries (run_book (deliver (id_of t) g a) (placed p t m)) (deliver_plan p a.emitted t g) a m
  unfolding deliver deliver_plan run
  deliver_carries = by_emitted (elemb (id_of t) a.emitted)
    where
      by_token : (u : Bool) → Carries (run_book (cond u (stop refusals.NoToken) (act (emit (id_of t) g) (done (with_emitted (id_of t) a)))) (placed p t m)) (cond u (storing Exhausted p t) (issue_plan p t g)) a m
      by_token true = record { outcome = refl; fits = fits }
      by_token false = issue_carries

      by_emitted : (u : Bool) → Carries (run_book (cond u (done a) (look (λ b. cond (eqb b.next_token.0 last64) (stop refusals.NoToken) (act (emit (id_of t) g) (done (with_emitted (id_of t) a)))))) (placed p t m))
          (cond u (storing (Planned Stored) p t) (cond (eqb p.next_token.0 last64) (storing Exhausted p t) (issue_plan p t g))) a m
      by_emitted true = record { outcome = refl; fits = fits }
      by_emitted false = by_token (eqb p.next_token.0 last64)

-- ---- a candidate whose submission t is retained at k
module _ (m : Book) (s : SoundBook m) (c : PendingDelivery) (a : Memory) (k : ℕ) (t : SubmittedTx) (within : k < length m.submitted)
    (here : get_or m.submitted k zero_submitted ≡ t) where
  known_place : InPlace (place_on k m) m
  known_place = record {
    within = omega arith;
    below = let l = s.fits.submitted in omega arith;
    counts = λ x. sym (ap length (put_set k x m.submitted within) ∙ length-set m.submitted k x);
  }

  tightened : revise_book (id_of t) (tighten c.intent.expiry) m ≡ placed (place_on k m) (tightened_by c t) m
  tightened =
      revise_at m (ids_of s) (id_of t) k within (ap id_of here) (tighten c.intent.expiry)
      ∙ ap (λ (x : SubmittedTx). stored_at k (tightened_by c x) m) here
      ∙ ap (λ (ts : List SubmittedTx). with_submitted ts m) (sym (put_set k (tightened_by c t) m.submitted within))

  tightened_sound : SoundBook (placed (place_on k m) (tightened_by c t) m)
  unfolding on_book
  tightened_sound = subst SoundBook tightened (sound_stepped (revise (id_of t) (tighten c.intent.expiry)) m s refl)

  tightened_id : id_of (tightened_by c t) ≡ id_of t
  unfolding revised
  tightened_id = refl

  met_carries : Carries (run_book (met c t a) m) (met_plan (place_on k m) a.emitted c t) a m
  unfolding met met_plan on_book run
  met_carries =
      carries_by
      (act_silent (revise (id_of t) (tighten c.intent.expiry)) (cond (wanted c.goal t.entry) (deliver (id_of t) c.goal a) (done a)) m refl refl
      ∙ ap (run_book (cond (wanted c.goal t.entry) (deliver (id_of t) c.goal a) (done a))) tightened)
      (by (wanted c.goal t.entry))
    where
      by : (w : Bool) → Carries (run_book (cond w (deliver (id_of t) c.goal a) (done a)) (placed (place_on k m) (tightened_by c t) m))
          (cond w (deliver_plan (place_on k m) a.emitted (tightened_by c t) c.goal) (storing (Planned Stored) (place_on k m) (tightened_by c t))) a m
      by true =
          carries_by (ap (λ (i : ℕ). run_book (deliver i c.goal a) (placed (place_on k m) (tightened_by c t) m)) (sym tightened_id))
          (deliver_carries (place_on k m) (tightened_by c t) c.goal a m known_place (ids_of tightened_sound))
      by false = record { outcome = refl; fits = known_place }

  -- a miss
  kept_retired : (remove_book (id_of t) m).retired ≡ m.retired
  unfolding remove_book forgotten
  kept_retired = refl

  removed_sound : SoundBook (remove_book (id_of t) m)
  unfolding on_book
  removed_sound = sound_stepped (remove (id_of t)) m s refl

  retire_full : full (note_book (retire (id_of t)) (remove_book (id_of t) m)) ≡ ltb 64 (length (push_new m.retired (id_of t)))
  retire_full = full_retire (remove_book (id_of t) m) removed_sound.fits (id_of t) ∙ ap (λ (is : List ℕ). ltb 64 (length (push_new is (id_of t)))) kept_retired

  module _ (n : ℕ) (f : List ℕ) where
    miss_carries : (x : DrainFailureCause) → Carries (run_book (known_by n c f t a (Some x)) m) (removal_plan m.retired (failure_at n x t.entry.id f)) a m
    unfolding withdraw removal_plan on_book run
    miss_carries x =
        carries_by (act_silent (remove (id_of t)) (act (note (retire (id_of t))) (done after)) m refl refl) (by (ltb 64 (length (push_new m.retired (id_of t)))) refl)
      where
        after : Memory
        after = with_failure n x (id_of t) f (with_removed (id_of t) a)

        by : (u : Bool) → ltb 64 (length (push_new m.retired (id_of t))) ≡ u
            → Carries (run_book (act (note (retire (id_of t))) (done after)) (remove_book (id_of t) m)) (failing (cond u Full (Planned Removed)) (failure_at n x t.entry.id f)) a m
        by true e = record { outcome = act_full (note (retire (id_of t))) (done after) (remove_book (id_of t) m) (retire_full ∙ e); fits = tt }
        by false e = record {
          outcome = act_silent (note (retire (id_of t))) (done after) (remove_book (id_of t) m) (retire_full ∙ e) refl;
          fits = ltb-false 64 (length (push_new m.retired (id_of t))) e;
        }

    pub known_carries : Carries (run_book (known n c f t a) m) (known_plan (place_on k m) a.emitted m.retired n c f t) a m
    unfolding known known_plan
    known_carries = by (miss_of c.intent f t.entry)
      where
        by : (o : Option DrainFailureCause) → Carries (run_book (known_by n c f t a o) m) (known_plan_by (place_on k m) a.emitted m.retired n c f t o) a m
        by None = met_carries
        by (Some x) = miss_carries x

-- ---- a candidate of which none is retained
module _ (m : Book) (s : SoundBook m) (c : PendingDelivery) (sc : sound_intent c.intent ≡ true) (a : Memory) where
  abbrev end : SubmittedPlace
  end = place_on (length m.submitted) m

  grown_is : retained c.intent m ≡ placed (id_taken end) (new_submitted end c) m
  unfolding retained
  grown_is = λ i. record {
    next_token = m.next_token;
    next_id = record { 0 = sym (add-one m.next_id.0) i };
    submitted = sym (put_end (new_submitted end c) m.submitted) i;
    pending = m.pending;
    retired = m.retired;
    rollback = m.rollback;
    replayed = m.replayed;
  }

  new_place : length m.submitted < 16 → InPlace (id_taken end) m
  new_place h = record {
    within = omega arith;
    below = h;
    counts = λ x. let e = length-append m.submitted (x ∷ []) in let q : length (put_at (length m.submitted) x m.submitted) ≡ length (m.submitted ++ x ∷ []) = ap length (put_end x m.submitted) in omega arith;
  }

  new_id : id_of (new_submitted end c) ≡ m.next_id.0
  unfolding new_entry
  new_id = refl

  module _ (free : elemb m.next_id.0 (map id_of m.submitted) ≡ false) (reads : readable_bundle c.intent.bundle ≡ true) where
    retain_is : (on_book (retain c.intent) m).after ≡ retained c.intent m
    unfolding on_book retain_book retainable
    retain_is = ap (λ (u : Bool). cond u (retained c.intent m) m) (and_both (and_both sc reads) (ap not free))

    retain_full : full (on_book (retain c.intent) m).after ≡ ltb 16 (suc (length m.submitted))
    retain_full = ap full retain_is ∙ full_retain m s.fits c.intent

    silent : (on_book (retain c.intent) m).out ≡ []
    unfolding on_book
    silent = refl

    new_carries : (u : Bool) → eqb (length m.submitted) 16 ≡ u
        → Carries (run_book (act (retain c.intent) (deliver m.next_id.0 c.goal a)) m) (cond u (failing Full zero_failure) (retain_plan end a.emitted c)) a m
    unfolding retain_plan
    new_carries true e = record {
      outcome = act_full (retain c.intent) (deliver m.next_id.0 c.goal a) m (retain_full ∙ lt-ltb 16 (suc (length m.submitted)) (let l = eqb-true (length m.submitted) 16 e in omega arith));
      fits = tt;
    }
    new_carries false e =
        let l : length m.submitted < 16 = let h = s.fits.submitted in let n = eqb-false (length m.submitted) 16 e in omega (arith, n) in
        let roomy : full (on_book (retain c.intent) m).after ≡ false = retain_full ∙ le-ltb 16 (suc (length m.submitted)) (omega arith) in
        let sound : SoundBook (placed (id_taken end) (new_submitted end c) m) = subst SoundBook (retain_is ∙ grown_is) (sound_stepped (retain c.intent) m s roomy) in
        carries_by
        (act_silent (retain c.intent) (deliver m.next_id.0 c.goal a) m roomy silent
        ∙ ap (run_book (deliver m.next_id.0 c.goal a)) (retain_is ∙ grown_is)
        ∙ ap (λ (i : ℕ). run_book (deliver i c.goal a) (placed (id_taken end) (new_submitted end c) m)) (sym new_id))
        (deliver_carries (id_taken end) (new_submitted end c) c.goal a m (new_place l) (ids_of sound))

  abbrev new_plan : SubmissionPlanDelta
  new_plan = cond (eqb (length m.submitted) 16) (failing Full zero_failure) (retain_plan end a.emitted c)

  pub unknown_carries : (n : ℕ) (f : List ℕ) → Carries (run_book (unknown n c f m a) m) (unknown_plan end a.emitted (map id_of m.submitted) n c f) a m
  unfolding unknown unknown_plan run
  unknown_carries n f = held (elemb m.next_id.0 (map id_of m.submitted)) refl
    where
      new : Rule Memory
      new = act (retain c.intent) (deliver m.next_id.0 c.goal a)

      last : elemb m.next_id.0 (map id_of m.submitted) ≡ false → readable_bundle c.intent.bundle ≡ true → (u : Bool)
          → Carries (run_book (cond u (done (with_failure n IdsExhausted m.next_id.0 f a)) new) m) (cond u (failing (Planned Failed) (failure_at n IdsExhausted m.next_id f)) new_plan) a m
      last h r true = record { outcome = refl; fits = tt }
      last h r false = new_carries h r (eqb (length m.submitted) 16) refl

      reads : elemb m.next_id.0 (map id_of m.submitted) ≡ false → (u : Bool) → not (readable_bundle c.intent.bundle) ≡ u
          → Carries (run_book (cond u (done (with_failure n OutputsUnreadable m.next_id.0 f a)) (cond (eqb m.next_id.0 last64) (done (with_failure n IdsExhausted m.next_id.0 f a)) new)) m)
          (cond u (failing (Planned Failed) (failure_at n OutputsUnreadable m.next_id f)) (cond (eqb m.next_id.0 last64) (failing (Planned Failed) (failure_at n IdsExhausted m.next_id f)) new_plan)) a m
      reads h true e = record { outcome = refl; fits = tt }
      reads h false e = last h (not-false (readable_bundle c.intent.bundle) e) (eqb m.next_id.0 last64)

      held : (u : Bool) → elemb m.next_id.0 (map id_of m.submitted) ≡ u
          → Carries (run_book (cond u (done (with_failure n IdCollides m.next_id.0 f a)) (cond (not (readable_bundle c.intent.bundle)) (done (with_failure n OutputsUnreadable m.next_id.0 f a)) (cond (eqb m.next_id.0 last64) (done (with_failure n IdsExhausted m.next_id.0 f a)) new))) m)
          (cond u (failing (Planned Failed) (failure_at n IdCollides m.next_id f)) (cond (not (readable_bundle c.intent.bundle)) (failing (Planned Failed) (failure_at n OutputsUnreadable m.next_id f)) (cond (eqb m.next_id.0 last64) (failing (Planned Failed) (failure_at n IdsExhausted m.next_id f)) new_plan))) a m
      held true e = record { outcome = refl; fits = tt }
      held false e = reads e (not (readable_bundle c.intent.bundle)) refl

  -- ---- a candidate
  module _ (n : ℕ) where
    abbrev print : List ℕ
    print = intent_of c.intent

    unnamed_carries : (x : Option ℕ) → place_of (has_intent print) m.submitted ≡ x → Carries (run_book (unnamed n c print m a (filter (has_intent print) m.submitted)) m)
        (found_plan m a.emitted n c print (unknown_plan end a.emitted (map id_of m.submitted) n c print) x) a m
    unnamed_carries (Some k) e =
        let h = at_first (has_intent print) m.submitted e in
        carries_by (ap (λ (ts : List SubmittedTx). run_book (unnamed n c print m a ts) m) (first_filter (has_intent print) m.submitted zero_submitted h))
        (known_carries m s c a k (get_or m.submitted k zero_submitted) h.within refl n print)
    unnamed_carries None e =
        carries_by (ap (λ (ts : List SubmittedTx). run_book (unnamed n c print m a ts) m) (none_passes (has_intent print) m.submitted e)) (unknown_carries n print)

    named_carries : (i : SubmissionId) (x : Option ℕ) → place_of (has_id i.0) m.submitted ≡ x → Carries (run_book (named n c print i.0 a (filter (has_id i.0) m.submitted)) m)
        (found_plan m a.emitted n c print (failing (Planned Failed) (failure_at n NoRetainedState i print)) x) a m
    unfolding run
    named_carries i (Some k) e =
        let h = at_first (has_id i.0) m.submitted e in
        carries_by (ap (λ (ts : List SubmittedTx). run_book (named n c print i.0 a ts) m) (first_filter (has_id i.0) m.submitted zero_submitted h))
        (known_carries m s c a k (get_or m.submitted k zero_submitted) h.within refl n print)
    named_carries i None e =
        carries_by (ap (λ (ts : List SubmittedTx). run_book (named n c print i.0 a ts) m) (none_passes (has_id i.0) m.submitted e)) (record { outcome = refl; fits = tt })

    planned_carries : (o : Option SubmissionId) → Carries (run_book (planned_by n c print m a o) m) (plan_by m a.emitted n c print o) a m
    unfolding unnamed_plan pick
    planned_carries None = unnamed_carries (place_of (has_intent print) m.submitted) refl
    planned_carries (Some i) = named_carries i (place_of (has_id i.0) m.submitted) refl

    candidate_carries : Carries (run_book (candidate n c a) m) (plan_by m a.emitted n c print c.intent.id) a m
    unfolding candidate run
    candidate_carries = planned_carries c.intent.id

    -- the whole of one candidate
    pub one_carries : Carries (run_book (one_candidate n c a) m) (candidate_plan m a.emitted a.removed n c) a m
    unfolding one_candidate candidate_plan run
    one_carries = by (is_one_of c.intent.id a.removed)
      where
        by : (u : Bool) → Carries (run_book (cond u (done a) (candidate n c a)) m) (cond u (failing (Planned Passed) zero_failure) (plan_by m a.emitted n c print c.intent.id)) a m
        by true = record { outcome = refl; fits = tt }
        by false = candidate_carries
