-- What `stop_attempt` answers of a live token.
use Rattle.std.specs.Prelude.{ℕ, ◌<◌, true, ◌≡◌, length}
use mathlib.Core.List.{[]}
use Rattle.std.proofs.Math.Path.{refl, ap}
use Rattle.std.proofs.Common.{sym, ◌∙◌}
use Rattle.book.specs.Model.{Book, view, back}
use Rattle.book.specs.Sound.{id_of, soundb}
use Rattle.book.specs.declared.AttemptSlots.{AttemptSlots}
use Rattle.book.specs.declared.SubmittedTx.{SubmittedTx}
use Rattle.book.specs.declared.BookData.{BookData}
use Rattle.book_answers.specs.declared.SubmissionAttemptStatus.TheVariants.{Applied}
use Rattle.book_answers.specs.declared.SubmissionAttemptStatus.{SubmissionAttemptStatus}
use Rattle.rules.specs.Rule.{Outcome, ended, run}
use Rattle.rules.specs.Steps.{with_slots, on_book, run_book}
use Rattle.rules.specs.Steps.Slots.{slots_aside}
use Rattle.rules.specs.Calls.StopAttempt.{stop_live}
use Rattle.part_replies.specs.Reply.{reply}
use Rattle.std.specs.Prelude.{Ok}
use Rattle.part_change.specs.Changes.{stored_at}
use Rattle.part_change.specs.ChangeLaws.{mark_at}
use Rattle.part_sound_laws.specs.Holds.{holds_sound, holds_lists}
use Rattle.part_attempt_answers.specs.Live.{at}
use Rattle.part_attempt_answers.specs.Answers.{done_reply}

module _ (b : BookData) (sound : soundb b ≡ true) (k : ℕ) (within : k < length (view b).submitted) where
  stop_run : ended (stored_at k (with_slots slots_aside (at (view b) k)) (view b)) [] Applied ≡ run_book (stop_live (at (view b) k)) (view b)
  unfolding stop_live run on_book
  stop_run = ap {B = Outcome Book SubmissionAttemptStatus} (λ (n : Book). ended n [] Applied)
      (sym (mark_at (view b) (holds_lists (holds_sound b sound)).ids (id_of (at (view b) k)) k within refl slots_aside))

  pub stop_answer : {s : SubmittedTx} {x : AttemptSlots} {out : BookData} → s ≡ at (view b) k → x ≡ slots_aside s.slots
      → out ≡ back (stored_at k (record { slots = x; entry = s.entry }) (view b))
      → record { answer = Ok Applied; book = out } ≡ reply b (run_book (stop_live (at (view b) k)) (view b))
  stop_answer {s} p q e =
      done_reply b Applied
      (e
      ∙ ap (λ (y : AttemptSlots). back (stored_at k (record { slots = y; entry = s.entry }) (view b))) q
      ∙ ap (λ (y : SubmittedTx). back (stored_at k (with_slots slots_aside y) (view b))) p)
      stop_run
