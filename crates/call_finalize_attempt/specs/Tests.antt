-- The tests of `finalize_attempt` in their order: 3, then those of a live token: 5, 7, 8, 9.
use Rattle.std.specs.Prelude.{ℕ, Bool, true, false, not, ◌≡◌}
use Rattle.std.proofs.Math.Bool.{cond}
use Rattle.std.specs.Prelude.{Option, None}
use Rattle.std.proofs.Math.Path.{refl, sym, ap}
use Rattle.std.proofs.Common.{◌∙◌}
use Rattle.base_lists.specs.Bytes.{eqs}
use Rattle.book.specs.Model.{Book}
use Rattle.book.specs.Sound.{id_of, sound_bundle}
use Rattle.book.specs.Zero.{is_zero_bundle}
use Rattle.book.specs.declared.SpendBundle.{SpendBundle}
use Rattle.book.specs.declared.SubmittedTx.{SubmittedTx}
use Rattle.book_answers.specs.declared.SubmissionFeeSource.{SubmissionFeeSource}
use Rattle.book_answers.specs.declared.FinalizedSubmission.{FinalizedSubmission}
use Rattle.rules.specs.Parts.{current_fingerprint, fee_unresolved, validate}
use Rattle.rules.specs.Rule.{Rule, undo, undone, run}
use Rattle.rules.specs.Steps.{run_book}
use Rattle.rules.specs.Calls.Common.{with_live}
use Rattle.rules.specs.Calls.Finalized.{unused_fee, current_final}
use Rattle.rules.specs.Calls.FinalizeAttempt.{is_joined, is_not_requested, finalize_as, finalize_with, finalize_live, sound_source, finalize_attempt}
use Rattle.call_finalize_attempt.specs.Finalizing.{attaching}
use Rattle.book.specs.declared.refusal.Refusal.TheVariants as refusals

-- ---- the joined bundle
module _ (source : SubmissionFeeSource) (j : SpendBundle) where
  pub joined_sound : {t : Bool} → t ≡ is_joined source → t ≡ true → sound_bundle j ≡ sound_source source j
  unfolding sound_source
  joined_sound p e = ap (λ (x : Bool). cond x (sound_bundle j) (is_zero_bundle j)) (sym e ∙ p)

  pub unjoined_zero : {t : Bool} → t ≡ is_joined source → t ≡ false → is_zero_bundle j ≡ sound_source source j
  unfolding sound_source
  unjoined_zero p e = ap (λ (x : Bool). cond x (sound_bundle j) (is_zero_bundle j)) (sym e ∙ p)

  module _ (t : ℕ) (m : Book) where
    by_source : {x : Bool} → sound_source source j ≡ x → run_book (finalize_attempt t source j) m ≡ run_book (cond x (with_live t None (finalize_live source j)) (undo refusals.BadValue)) m
    unfolding finalize_attempt
    by_source e = ap (λ (x : Bool). run_book (cond x (with_live t None (finalize_live source j)) (undo refusals.BadValue)) m) e

    pub source_unsound : sound_source source j ≡ false → undone refusals.BadValue ≡ run_book (finalize_attempt t source j) m
    unfolding run
    source_unsound e = sym (by_source e)

    pub source_sound : sound_source source j ≡ true → run_book (with_live t None (finalize_live source j)) m ≡ run_book (finalize_attempt t source j) m
    source_sound e = sym (by_source e)

-- ---- a live token
module _ (source : SubmissionFeeSource) (j : SpendBundle) (s : SubmittedTx) (m : Book) where
  abbrev finalised : Bool
  finalised = s.slots.active_attempt.attempt.finalized_variant_fingerprint.present

  abbrev unchanged : Bool
  unchanged = eqs (current_fingerprint s.entry) s.slots.active_attempt.attempt.drained_variant_fingerprint

  by_tests_lem : {a v e : Bool} → finalised ≡ a → validate s.entry ≡ v → unchanged ≡ e
      → run_book (finalize_live source j s) m ≡ run_book (cond a (undo refusals.AlreadyFinalized) (cond (not v) (undo refusals.InvalidSubmission) (cond e (finalize_with source j s) (undo refusals.StaleVariant)))) m
  unfolding finalize_live
  by_tests_lem {a} {v} p q r =
      ap (λ (x : Bool). run_book (cond x (undo refusals.AlreadyFinalized) (cond (not (validate s.entry)) (undo refusals.InvalidSubmission) (cond unchanged (finalize_with source j s) (undo refusals.StaleVariant)))) m) p
      ∙ ap (λ (x : Bool). run_book (cond a (undo refusals.AlreadyFinalized) (cond (not x) (undo refusals.InvalidSubmission) (cond unchanged (finalize_with source j s) (undo refusals.StaleVariant)))) m) q
      ∙ ap (λ (x : Bool). run_book (cond a (undo refusals.AlreadyFinalized) (cond (not v) (undo refusals.InvalidSubmission) (cond x (finalize_with source j s) (undo refusals.StaleVariant)))) m) r

  pub live_finalised : finalised ≡ true → undone refusals.AlreadyFinalized ≡ run_book (finalize_live source j s) m
  unfolding run
  live_finalised p = sym (by_tests_lem p refl refl)

  module _ (p : finalised ≡ false) where
    pub live_invalid : validate s.entry ≡ false → undone refusals.InvalidSubmission ≡ run_book (finalize_live source j s) m
    unfolding run
    live_invalid q = sym (by_tests_lem p q refl)

    module _ (q : validate s.entry ≡ true) where
      pub live_other : unchanged ≡ false → undone refusals.StaleVariant ≡ run_book (finalize_live source j s) m
      unfolding run
      live_other r = sym (by_tests_lem p q r)

      pub live_on : unchanged ≡ true → run_book (finalize_with source j s) m ≡ run_book (finalize_live source j s) m
      live_on r = sym (by_tests_lem p q r)

  -- ---- the fee
  abbrev unused : Rule (Option FinalizedSubmission)
  unused = finalize_as (id_of s) (unused_fee s.slots.active_attempt.attempt.goal s.entry)

  abbrev current : Rule (Option FinalizedSubmission)
  current = finalize_as (id_of s) (current_final s.slots.active_attempt.attempt.goal s.entry)

  by_fee : {o t n : Bool} → fee_unresolved s.entry ≡ o → is_joined source ≡ t → is_not_requested source ≡ n
      → run_book (finalize_with source j s) m ≡ run_book (cond o (cond t (attaching j s) unused) (cond n current (undo refusals.UnrequestedFee))) m
  unfolding finalize_with
  by_fee {o} {t} p q r =
      ap (λ (x : Bool). run_book (cond x (cond (is_joined source) (attaching j s) unused) (cond (is_not_requested source) current (undo refusals.UnrequestedFee))) m) p
      ∙ ap (λ (x : Bool). run_book (cond o (cond x (attaching j s) unused) (cond (is_not_requested source) current (undo refusals.UnrequestedFee))) m) q
      ∙ ap (λ (x : Bool). run_book (cond o (cond t (attaching j s) unused) (cond x current (undo refusals.UnrequestedFee))) m) r

  pub fee_attached_lem : fee_unresolved s.entry ≡ true → is_joined source ≡ true → run_book (attaching j s) m ≡ run_book (finalize_with source j s) m
  fee_attached_lem p q = sym (by_fee p q refl)

  pub fee_unused : fee_unresolved s.entry ≡ true → is_joined source ≡ false → run_book unused m ≡ run_book (finalize_with source j s) m
  fee_unused p q = sym (by_fee p q refl)

  pub fee_current : fee_unresolved s.entry ≡ false → is_not_requested source ≡ true → run_book current m ≡ run_book (finalize_with source j s) m
  fee_current p r = sym (by_fee p refl r)

  pub fee_unasked : fee_unresolved s.entry ≡ false → is_not_requested source ≡ false → undone refusals.UnrequestedFee ≡ run_book (finalize_with source j s) m
  unfolding run
  fee_unasked p r = sym (by_fee p refl r)
