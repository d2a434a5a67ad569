-- The plan of a candidate by the answers of the lookups, and what the code hands to the plan.
use Rattle.std.specs.Prelude.{ℕ, ◌≤◌, Bool, true, false, ◌≡◌, length, get_or}
use Rattle.std.proofs.Math.Bool.{cond}
use mathlib.Core.List.{List, map}
use Rattle.std.proofs.Math.Path.{sym, ap}
use Rattle.std.proofs.Common.{◌∙◌, arith}
use Rattle.std.proofs.lemmas.List.{length-map}
use Rattle.base_lists.specs.Laws.{take_cells}
use Rattle.book.specs.Zero.{zero_submitted}
use Rattle.book.specs.Model.{Book, view, id_list, id_cells}
use Rattle.book.specs.Sound.{id_of}
use Rattle.book.specs.declared.BookData.{BookData}
use Rattle.book.specs.declared.Ids.{Ids}
use Rattle.std.specs.Prelude.{Option}
use Rattle.book.specs.declared.SubmissionId.{SubmissionId}
use Rattle.std.specs.Prelude.{None, Some}
use Rattle.book.specs.declared.PendingDelivery.{PendingDelivery}
use Rattle.book.specs.declared.SubmittedTx.{SubmittedTx}
use Rattle.rules.specs.Parts.{intent_of}
use Rattle.rules.specs.Calls.Drain.{is_one_of}
use Rattle.part_lookup.specs.Normal.{Normal, submitted_are}
use Rattle.part_lookup.specs.Place.{place_of, place_of_id, has_intent}
use Rattle.std.specs.Prelude.{Some, None}
use Rattle.book_answers.specs.Zero.{zero_failure}
use Rattle.book_answers.specs.declared.DrainFailureCause.TheVariants.{NoRetainedState}
use Rattle.part_plan.specs.declared.PlanAction.TheVariants.{Passed, Failed}
use Rattle.part_plan.specs.declared.PlanAnswer.TheVariants.{Planned}
use Rattle.part_plan.specs.declared.SubmittedPlace.{SubmittedPlace}
use Rattle.part_plan.specs.declared.SubmissionPlanDelta.{SubmissionPlanDelta}
use Rattle.part_plan.specs.Plan.{failing, failure_at, known_plan, unknown_plan}
use Rattle.call_drain.specs.Planned.{place_on, found_plan, unnamed_plan, plan_by, candidate_plan}

-- ---- the numbers of the cells are those of the lists
abbrev pub place_in : ℕ → BookData → SubmittedPlace
place_in k b = record { index = k; count = b.submitted_count; next_id = b.next_submission_id; next_token = b.next_delivery_attempt_token }

module _ (b : BookData) (h : Normal b) (emitted : List ℕ) (n : ℕ) (c : PendingDelivery) (f : List ℕ) {r : SubmissionPlanDelta} where
  pub known_on : (k : ℕ) {p : SubmittedPlace} → p ≡ place_in k b → {t : SubmittedTx} → t ≡ get_or (view b).submitted k zero_submitted
      → r ≡ known_plan p emitted (id_list b.retired_submission_ids) n c f t
      → r ≡ known_plan (place_on k (view b)) emitted (view b).retired n c f (get_or (view b).submitted k zero_submitted)
  unfolding view
  known_on k o {t} e q =
      q
      ∙ ap (λ (x : SubmittedPlace). known_plan x emitted (id_list b.retired_submission_ids) n c f t) o
      ∙ (λ i. known_plan
      (record { index = k; count = (submitted_are b h).count i; next_id = b.next_submission_id; next_token = b.next_delivery_attempt_token })
      emitted (id_list b.retired_submission_ids) n c f (e i))

  pub unknown_on : {p : SubmittedPlace} → p ≡ place_in b.submitted_count b → {ids : Ids 16} → ids ≡ id_cells 16 (map id_of (view b).submitted)
      → r ≡ unknown_plan p emitted (id_list ids) n c f
      → r ≡ unknown_plan (place_on (length (view b).submitted) (view b)) emitted (map id_of (view b).submitted) n c f
  unfolding view
  unknown_on o {ids} e q =
      let l : id_list ids ≡ map id_of (view b).submitted = ap id_list e ∙ take_cells 16 0 (map id_of (view b).submitted) in
      q
      ∙ ap (λ (x : SubmittedPlace). unknown_plan x emitted (id_list ids) n c f) o
      ∙ (λ i. unknown_plan
      (record {
        index = (submitted_are b h).count i;
        count = (submitted_are b h).count i;
        next_id = b.next_submission_id;
        next_token = b.next_delivery_attempt_token;
      })
      emitted (l i) n c f)

pub ids_short : (b : BookData) → Normal b → {ids : Ids 16} → ids ≡ id_cells 16 (map id_of (view b).submitted) → ids.count ≤ 16
ids_short b h {ids} e =
    let c : ids.count ≡ length (map id_of (view b).submitted) = ap (λ (x : Ids 16). x.count) e in
    let l = length-map (view b).submitted id_of in
    let k = h.fits.submitted in
    omega arith

-- ---- without an id
module _ (m : Book) (emitted : List ℕ) (n : ℕ) (c : PendingDelivery) (f : List ℕ) where
  abbrev other_plan : SubmissionPlanDelta
  other_plan = unknown_plan (place_on (length m.submitted) m) emitted (map id_of m.submitted) n c f

  pub unnamed_at : {r : SubmissionPlanDelta} {k : ℕ} → place_of (has_intent f) m.submitted ≡ Some k
      → r ≡ known_plan (place_on k m) emitted m.retired n c f (get_or m.submitted k zero_submitted) → r ≡ unnamed_plan m emitted n c f
  unfolding unnamed_plan
  unnamed_at e q = q ∙ sym (ap (found_plan m emitted n c f other_plan) e)

  pub unnamed_none : {r : SubmissionPlanDelta} → place_of (has_intent f) m.submitted ≡ None → r ≡ other_plan → r ≡ unnamed_plan m emitted n c f
  unfolding unnamed_plan
  unnamed_none e q = q ∙ sym (ap (found_plan m emitted n c f other_plan) e)

-- ---- any candidate
module _ (m : Book) (emitted removed : List ℕ) (n : ℕ) (c : PendingDelivery) {r : SubmissionPlanDelta} where
  pub passed_over : is_one_of c.intent.id removed ≡ true → r ≡ failing (Planned Passed) zero_failure → r ≡ candidate_plan m emitted removed n c
  unfolding candidate_plan
  passed_over e q = q ∙ sym (ap (λ (u : Bool). cond u (failing (Planned Passed) zero_failure) (plan_by m emitted n c (intent_of c.intent) c.intent.id)) e)

  module _ (on : is_one_of c.intent.id removed ≡ false) {f : List ℕ} (print : f ≡ intent_of c.intent) where
    by_id_lem : {o : Option SubmissionId} → c.intent.id ≡ o → r ≡ plan_by m emitted n c f o → r ≡ candidate_plan m emitted removed n c
    unfolding candidate_plan
    by_id_lem e q =
        q ∙ (λ i. plan_by m emitted n c (print i) (sym e i))
        ∙ sym (ap (λ (u : Bool). cond u (failing (Planned Passed) zero_failure) (plan_by m emitted n c (intent_of c.intent) c.intent.id)) on)

    pub without_id_lem : c.intent.id ≡ None → r ≡ unnamed_plan m emitted n c f → r ≡ candidate_plan m emitted removed n c
    without_id_lem e q = by_id_lem e q

    pub id_at : {i : SubmissionId} → c.intent.id ≡ Some i → {k : ℕ} → place_of_id i.0 m ≡ Some k
        → r ≡ known_plan (place_on k m) emitted m.retired n c f (get_or m.submitted k zero_submitted) → r ≡ candidate_plan m emitted removed n c
    id_at {i} e p q = by_id_lem e (q ∙ sym (ap (found_plan m emitted n c f (failing (Planned Failed) (failure_at n NoRetainedState i f))) p))

    pub id_gone : {i : SubmissionId} → c.intent.id ≡ Some i → place_of_id i.0 m ≡ None → r ≡ failing (Planned Failed) (failure_at n NoRetainedState i f) → r ≡ candidate_plan m emitted removed n c
    id_gone {i} e p q = by_id_lem e (q ∙ sym (ap (found_plan m emitted n c f (failing (Planned Failed) (failure_at n NoRetainedState i f))) p))
