-- The answers of a drain in counted cells, and the lists that they hold.
use Rattle.std.specs.Prelude.{ℕ, ◌+◌, ◌≤◌, ◌<◌, List, [], ◌∷◌, ◌++◌, ◌≡◌, refl, length, set}
use Rattle.std.proofs.Common.{append-nil, sym, ap, ◌∙◌, arith, length-append}
use Rattle.base_lists.specs.Lists.{cells}
use Rattle.base_lists.specs.Laws.{take_cells, length_cells, length_snoc}
use Rattle.book.specs.Model.{id_list, id_cells}
use Rattle.book.specs.SoundLaws.{Counted}
use Rattle.book.specs.declared.Ids.{Ids}
use Rattle.book.specs.declared.SubmissionId.{SubmissionId}
use Rattle.part_ids.specs.Counted.{counted_push}
use Rattle.rules.specs.Calls.Plan.{Memory}
use Rattle.book_answers.specs.declared.DrainedSubmission.{DrainedSubmission}
use Rattle.book_answers.specs.Zero.{zero_drained, zero_failure}
use Rattle.part_drain_answers.specs.declared.Drained.{Drained}
use Rattle.part_drain_answers.specs.DrainReply.{drained_of}
use Rattle.book_answers.specs.declared.SubmissionDrainFailure.{SubmissionDrainFailure}
use Rattle.part_plan.specs.declared.PlanAction.{PlanAction}
use Rattle.part_plan.specs.declared.PlanAction.TheVariants.{Passed, Failed, Removed, Stored, Issued}
use Rattle.part_plan.specs.declared.SubmissionPlanDelta.{SubmissionPlanDelta}
use Rattle.call_drain.specs.declared.DrainAnswers.{DrainAnswers}
use Rattle.call_drain.specs.Carried.{memory_by, drained_in}

abbrev pub answers_of : List DrainedSubmission → Memory → DrainAnswers
answers_of xs a = record { emitted = id_cells 16 a.emitted; removed = id_cells 16 a.removed; drained = drained_of xs a.failed }

-- ---- the cells after a plan
abbrev pub one_issued : DrainedSubmission → Drained → Drained
one_issued x d = record {
  submission_count = d.submission_count + 1;
  submissions = set d.submissions d.submission_count x;
  failure_count = d.failure_count;
  failures = d.failures;
}

abbrev pub one_failed : SubmissionDrainFailure → Drained → Drained
one_failed f d = record {
  submission_count = d.submission_count;
  submissions = d.submissions;
  failure_count = d.failure_count + 1;
  failures = set d.failures d.failure_count f;
}

abbrev pub with_submission : SubmissionId → DrainedSubmission → DrainAnswers → DrainAnswers
with_submission i x a = record { emitted = id_cells 16 (id_list a.emitted ++ i.0 ∷ []); removed = a.removed; drained = one_issued x a.drained }

abbrev pub with_failed : SubmissionDrainFailure → DrainAnswers → DrainAnswers
with_failed f a = record { emitted = a.emitted; removed = a.removed; drained = one_failed f a.drained }

abbrev pub with_removal : SubmissionDrainFailure → DrainAnswers → DrainAnswers
with_removal f a = record { emitted = a.emitted; removed = id_cells 16 (id_list a.removed ++ f.candidate_id.0 ∷ []); drained = one_failed f a.drained }

abbrev pub answers_by : PlanAction → SubmissionPlanDelta → DrainAnswers → DrainAnswers
answers_by Passed p a = a
answers_by Failed p a = with_failed p.failure a
answers_by Removed p a = with_removal p.failure a
answers_by Stored p a = a
answers_by Issued p a = with_submission p.tx.entry.id p.submission a

-- ---- one more of each has room
pub record Room (a : DrainAnswers) : Type 0 where
  pub emitted : (a.emitted.count < 16) × (a.emitted ≡ id_cells 16 (id_list a.emitted))
  pub removed : (a.removed.count < 16) × (a.removed ≡ id_cells 16 (id_list a.removed))
  pub submissions : a.drained.submission_count < 16
  pub submissions_long : length a.drained.submissions ≡ 16
  pub failures : a.drained.failure_count < 16
  pub failures_long : length a.drained.failures ≡ 16

-- at most n of each
pub record Few (n : ℕ) (xs : List DrainedSubmission) (a : Memory) : Type 0 where
  pub emitted : length a.emitted ≤ n
  pub removed : length a.removed ≤ n
  pub failed : length a.failed ≤ n
  pub issued : length xs ≤ n

ids_room : (is : List ℕ) {x : Ids 16} → x ≡ id_cells 16 is → length is < 16 → (x.count < 16) × (x ≡ id_cells 16 (id_list x))
ids_room is {x} e h =
    let c : x.count ≡ length is = ap (λ (y : Ids 16). y.count) e in
    (omega arith, e ∙ ap (id_cells 16) (sym (take_cells 16 0 is) ∙ sym (ap id_list e)))

pub room : (xs : List DrainedSubmission) (a : Memory) {d : DrainAnswers} → d ≡ answers_of xs a → {n : ℕ} → Few n xs a → n < 16 → Room d
room xs a {d} e {n} k h =
    let s : d.drained.submission_count ≡ length xs = ap (λ (y : DrainAnswers). y.drained.submission_count) e in
    let f : d.drained.failure_count ≡ length a.failed = ap (λ (y : DrainAnswers). y.drained.failure_count) e in
    record {
      emitted = ids_room a.emitted (ap (λ (y : DrainAnswers). y.emitted) e) (let l = k.emitted in omega arith);
      removed = ids_room a.removed (ap (λ (y : DrainAnswers). y.removed) e) (let l = k.removed in omega arith);
      submissions = let l = k.issued in omega arith;
      submissions_long = ap (λ (y : DrainAnswers). length y.drained.submissions) e ∙ length_cells 16 zero_drained xs (let l = k.issued in omega arith);
      failures = let l = k.failed in omega arith;
      failures_long = ap (λ (y : DrainAnswers). length y.drained.failures) e ∙ length_cells 16 zero_failure a.failed (let l = k.failed in omega arith);
    }

-- ---- the lists after a plan
-- one more at the end of counted cells
push : {A : Type 0} (z : A) (xs : List A) (x : A) → length xs < 16 → set (cells 16 z xs) (length xs) x ≡ cells 16 z (xs ++ x ∷ [])
push z xs x h = let c : Counted 16 z (length xs) (cells 16 z xs) xs = record { count = refl; held = refl } in (counted_push c x h).held

push_ids : (is : List ℕ) (i : ℕ) → id_cells 16 (id_list (id_cells 16 is) ++ i ∷ []) ≡ id_cells 16 (is ++ i ∷ [])
push_ids is i = ap (λ (js : List ℕ). id_cells 16 (js ++ i ∷ [])) (take_cells 16 0 is)

module _ (p : SubmissionPlanDelta) (xs : List DrainedSubmission) (a : Memory) where
  issued_drained : length xs < 16 → one_issued p.submission (drained_of xs a.failed) ≡ drained_of (xs ++ p.submission ∷ []) a.failed
  issued_drained h = λ i. record {
    submission_count = sym (length_snoc xs p.submission) i;
    submissions = push zero_drained xs p.submission h i;
    failure_count = length a.failed;
    failures = cells 16 zero_failure a.failed;
  }

  failed_drained : length a.failed < 16 → one_failed p.failure (drained_of xs a.failed) ≡ drained_of xs (a.failed ++ p.failure ∷ [])
  failed_drained h = λ i. record {
    submission_count = length xs;
    submissions = cells 16 zero_drained xs;
    failure_count = sym (length_snoc a.failed p.failure) i;
    failures = push zero_failure a.failed p.failure h i;
  }

  issued_after : length xs < 16 → with_submission p.tx.entry.id p.submission (answers_of xs a) ≡ answers_of (xs ++ p.submission ∷ []) (memory_by Issued p a)
  issued_after h = λ i. record { emitted = push_ids a.emitted p.tx.entry.id.0 i; removed = id_cells 16 a.removed; drained = issued_drained h i }

  failed_after : length a.failed < 16 → with_failed p.failure (answers_of xs a) ≡ answers_of xs (memory_by Failed p a)
  failed_after h = λ i. record { emitted = id_cells 16 a.emitted; removed = id_cells 16 a.removed; drained = failed_drained h i }

  removed_after : length a.failed < 16 → with_removal p.failure (answers_of xs a) ≡ answers_of xs (memory_by Removed p a)
  removed_after h = λ i. record { emitted = id_cells 16 a.emitted; removed = push_ids a.removed p.failure.candidate_id.0 i; drained = failed_drained h i }

  none_more : answers_of xs a ≡ answers_of (xs ++ []) a
  none_more = ap (λ (ys : List DrainedSubmission). answers_of ys a) (sym (append-nil xs))

  pub after_is : (k : PlanAction) {d : DrainAnswers} → d ≡ answers_of xs a → length xs < 16 → length a.failed < 16
      → answers_by k p d ≡ answers_of (xs ++ drained_in k p) (memory_by k p a)
  after_is Passed e h j = e ∙ none_more
  after_is Failed e h j = ap (with_failed p.failure) e ∙ failed_after j ∙ ap (λ (ys : List DrainedSubmission). answers_of ys (memory_by Failed p a)) (sym (append-nil xs))
  after_is Removed e h j = ap (with_removal p.failure) e ∙ removed_after j ∙ ap (λ (ys : List DrainedSubmission). answers_of ys (memory_by Removed p a)) (sym (append-nil xs))
  after_is Stored e h j = e ∙ none_more
  after_is Issued e h j = ap (with_submission p.tx.entry.id p.submission) e ∙ issued_after h

  -- one candidate adds at most one to each
  pub few_more : (k : PlanAction) {n : ℕ} → Few n xs a → Few (n + 1) (xs ++ drained_in k p) (memory_by k p a)
  few_more k f = record {
    emitted = emitted k f.emitted;
    removed = removed k f.removed;
    failed = failed k f.failed;
    issued = issued k f.issued;
  }
    where
      emitted : (k : PlanAction) {n : ℕ} → length a.emitted ≤ n → length (memory_by k p a).emitted ≤ n + 1
      emitted Passed h = omega arith
      emitted Failed h = omega arith
      emitted Removed h = omega arith
      emitted Stored h = omega arith
      emitted Issued h = let e = length_snoc a.emitted p.tx.entry.id.0 in omega arith

      removed : (k : PlanAction) {n : ℕ} → length a.removed ≤ n → length (memory_by k p a).removed ≤ n + 1
      removed Passed h = omega arith
      removed Failed h = omega arith
      removed Removed h = let e = length_snoc a.removed p.failure.candidate_id.0 in omega arith
      removed Stored h = omega arith
      removed Issued h = omega arith

      failed : (k : PlanAction) {n : ℕ} → length a.failed ≤ n → length (memory_by k p a).failed ≤ n + 1
      failed Passed h = omega arith
      failed Failed h = let e = length_snoc a.failed p.failure in omega arith
      failed Removed h = let e = length_snoc a.failed p.failure in omega arith
      failed Stored h = omega arith
      failed Issued h = omega arith

      issued : (k : PlanAction) {n : ℕ} → length xs ≤ n → length (xs ++ drained_in k p) ≤ n + 1
      issued k h = let e = length-append xs (drained_in k p) in let l = at_most_one k in omega arith
        where
          at_most_one : (k : PlanAction) → length (drained_in k p) ≤ 1
          at_most_one Passed = omega arith
          at_most_one Failed = omega arith
          at_most_one Removed = omega arith
          at_most_one Stored = omega arith
          at_most_one Issued = omega arith
