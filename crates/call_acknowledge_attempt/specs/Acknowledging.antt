-- What `acknowledge_attempt` answers of a live token: 6 not finalised, 8 another variant, else acknowledged, set aside and unqueued.
use Rattle.std.specs.Prelude.{ℕ, ◌<◌, Bool, true, false, cond, not, ◌≡◌, length}
use mathlib.Core.List.{List, []}
use Rattle.std.proofs.Math.Path.{sym, ap}
use Rattle.std.proofs.Common.{◌∙◌}
use Rattle.base_lists.specs.Bytes.{eqs}
use Rattle.book.specs.Model.{Book, view, back}
use Rattle.book.specs.Sound.{id_of, soundb}
use Rattle.book.specs.declared.SubmittedTx.{SubmittedTx}
use Rattle.book.specs.declared.BookData.{BookData}
use Rattle.book_answers.specs.declared.SubmissionAttemptStatus.TheVariants.{Applied}
use Rattle.book_answers.specs.declared.SubmissionAttemptStatus.{SubmissionAttemptStatus}
use Rattle.rules.specs.Parts.{current_fingerprint}
use Rattle.rules.specs.Rule.{Rule, done, undo, acknowledge, unqueue, note, revise, set_aside, ◌>>◌, step, Outcome, ended, undone, run}
use Rattle.rules.specs.Steps.{with_entry, with_slots, note_book, on_book, run_book}
use Rattle.rules.specs.Steps.Entry.{revised}
use Rattle.rules.specs.Steps.Slots.{slots_aside, resolved}
use Rattle.rules.specs.Calls.AcknowledgeAttempt.{acknowledge_live}
use Rattle.part_replies.specs.Reply.{reply}
use Rattle.std.specs.Prelude.{Ok}
use Rattle.part_lookup.specs.Normal.{view_of}
use Rattle.part_change.specs.Changes.{stored_at}
use Rattle.part_sound_laws.specs.Holds.{holds_sound, holds_lists}
use Rattle.part_attempt_answers.specs.Answers.{done_reply, of_read}
use Rattle.part_attempt_answers.specs.Live.{at}
use Rattle.part_attempt_answers.specs.Stored.{revise_mark}
use Rattle.book.specs.declared.refusal.Refusal.TheVariants as refusals

-- the attempt of a submission
abbrev finalised : SubmittedTx → Bool
finalised s = s.slots.active_attempt.attempt.finalized_variant_fingerprint.present

abbrev pub final : SubmittedTx → List ℕ
final s = resolved s.slots.active_attempt.attempt

abbrev pub acknowledged_aside : List ℕ → SubmittedTx → SubmittedTx
acknowledged_aside f s = with_slots slots_aside (with_entry (revised (acknowledge f)) s)

-- the rules behind the two tests
abbrev acknowledging : SubmittedTx → Rule SubmissionAttemptStatus
acknowledging s = do
  step (revise (id_of s) (acknowledge (final s)))
  step (set_aside (id_of s))
  step (note (unqueue (id_of s)))
  done Applied

module _ (s : SubmittedTx) (m : Book) where
  unfinalised_run : finalised s ≡ false → undone refusals.NotFinalized ≡ run_book (acknowledge_live s) m
  unfolding acknowledge_live run
  unfinalised_run e = sym (ap (λ (t : Bool). run_book (cond (not t) (undo refusals.NotFinalized) (cond (eqs (current_fingerprint s.entry) (final s)) (acknowledging s) (undo refusals.StaleVariant))) m) e)

  tested : {t : Bool} → finalised s ≡ true → eqs (current_fingerprint s.entry) (final s) ≡ t → run_book (acknowledge_live s) m ≡ run_book (cond t (acknowledging s) (undo refusals.StaleVariant)) m
  unfolding acknowledge_live
  tested e q =
      ap (λ (x : Bool). run_book (cond (not x) (undo refusals.NotFinalized) (cond (eqs (current_fingerprint s.entry) (final s)) (acknowledging s) (undo refusals.StaleVariant))) m) e
      ∙ ap (λ (x : Bool). run_book (cond x (acknowledging s) (undo refusals.StaleVariant)) m) q

  other_run : finalised s ≡ true → eqs (current_fingerprint s.entry) (final s) ≡ false → undone refusals.StaleVariant ≡ run_book (acknowledge_live s) m
  unfolding run
  other_run e q = sym (tested e q)

module _ (b : BookData) (sound : soundb b ≡ true) (k : ℕ) (within : k < length (view b).submitted) where
  -- revised and set aside is stored once
  stored_run : ended (note_book (unqueue (id_of (at (view b) k))) (stored_at k (acknowledged_aside (final (at (view b) k)) (at (view b) k)) (view b))) [] Applied
      ≡ run_book (acknowledging (at (view b) k)) (view b)
  unfolding run on_book
  stored_run = ap {B = Outcome Book SubmissionAttemptStatus} (λ (n : Book). ended (note_book (unqueue (id_of (at (view b) k))) n) [] Applied)
      (sym (revise_mark (view b) k (holds_lists (holds_sound b sound)).ids within (acknowledge (final (at (view b) k))) slots_aside))

  module _ {s : SubmittedTx} (read : s ≡ at (view b) k) where
    pub acknowledge_unfinalised : finalised s ≡ false → reply b (undone refusals.NotFinalized) ≡ reply b (run_book (acknowledge_live (at (view b) k)) (view b))
    acknowledge_unfinalised e = ap (reply b) (of_read acknowledge_live (view b) read (unfinalised_run s (view b) e))

    pub acknowledge_other : finalised s ≡ true → eqs (current_fingerprint s.entry) (final s) ≡ false
        → reply b (undone refusals.StaleVariant) ≡ reply b (run_book (acknowledge_live (at (view b) k)) (view b))
    acknowledge_other e q = ap (reply b) (of_read acknowledge_live (view b) read (other_run s (view b) e q))

    acknowledge_run : finalised s ≡ true → eqs (current_fingerprint s.entry) (final s) ≡ true
        → ended (note_book (unqueue (id_of s)) (stored_at k (acknowledged_aside (final s) s) (view b))) [] Applied ≡ run_book (acknowledge_live (at (view b) k)) (view b)
    acknowledge_run e q =
        ap {B = Outcome Book SubmissionAttemptStatus} (λ (y : SubmittedTx). ended (note_book (unqueue (id_of y)) (stored_at k (acknowledged_aside (final y) y) (view b))) [] Applied) read
        ∙ stored_run ∙ ap (λ (y : SubmittedTx). run_book (acknowledging y) (view b)) (sym read)
        ∙ of_read acknowledge_live (view b) read (sym (tested s (view b) e q))

    pub acknowledge_answer : finalised s ≡ true → eqs (current_fingerprint s.entry) (final s) ≡ true
        → {f : List ℕ} {x : SubmittedTx} {stored out : BookData} → f ≡ final s → x ≡ acknowledged_aside f s → stored ≡ back (stored_at k x (view b))
        → out ≡ back (note_book (unqueue (id_of s)) (view stored))
        → record { answer = Ok Applied; book = out } ≡ reply b (run_book (acknowledge_live (at (view b) k)) (view b))
    acknowledge_answer e q {f} {x} f-is x-is stored_is out-is =
        done_reply b Applied
        (out-is
        ∙ ap (λ (n : Book). back (note_book (unqueue (id_of s)) n)) (view_of (stored_at k x (view b)) stored_is)
        ∙ ap (λ (y : SubmittedTx). back (note_book (unqueue (id_of s)) (stored_at k y (view b)))) (x-is ∙ ap (λ (g : List ℕ). acknowledged_aside g s) f-is))
        (acknowledge_run e q)
