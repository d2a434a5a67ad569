-- What `abandon_attempt` answers of a live token: that of withdrawing its submission, 10 where the retirements are full.
use Rattle.std.specs.Prelude.{ℕ, true, ◌≡◌, Ok, Err}
use Rattle.std.proofs.Math.Path.{sym, ap}
use Rattle.std.proofs.Common.{◌∙◌}
use Rattle.book.specs.Model.{view, back}
use Rattle.book.specs.Sound.{id_of, soundb}
use Rattle.book.specs.SoundLaws.{back_view}
use Rattle.book.specs.declared.SubmittedTx.{SubmittedTx}
use Rattle.book.specs.declared.BookData.{BookData}
use Rattle.book.specs.declared.refusal.Refusal.{Refusal}
use Rattle.book_answers.specs.declared.SubmissionAttemptStatus.TheVariants.{Applied}
use Rattle.rules.specs.Rule.{done, turn, undone, run}
use Rattle.rules.specs.Steps.{remove_book, run_book}
use Rattle.rules.specs.Calls.Common.{withdraw}
use Rattle.rules.specs.Calls.AbandonAttempt.{abandon_live}
use Rattle.part_replies.specs.Reply.{reply}
use Rattle.part_change.specs.Changes.{retiring}
use Rattle.part_sound_laws.specs.Outcomes.{bind_undone, bind_on, bind_turn}
use Rattle.part_withdraw.specs.WithdrawLaws.{withdraw_full, withdraw_on, next_sound}
use Rattle.part_attempt_answers.specs.Answers.{done_reply, of_read}
use Rattle.part_attempt_answers.specs.Live.{at}

module _ (b : BookData) (sound : soundb b ≡ true) (k : ℕ) {s : SubmittedTx} (read : s ≡ at (view b) k) {rest : BookData}
    (gone : rest ≡ back (remove_book (id_of s) (view b))) where
  pub abandon_full : {n : Refusal} → Err n ≡ retiring (id_of s) (view rest) → reply b (undone n) ≡ reply b (run_book (abandon_live (at (view b) k)) (view b))
  unfolding abandon_live
  abandon_full e =
      ap (reply b)
      (of_read abandon_live (view b) read
      (sym (bind_undone (withdraw (id_of s)) (λ _. turn (done Applied)) (view b) (withdraw_full b sound (id_of s) gone e))))

  pub abandon_answer : {q : BookData} → Ok q ≡ retiring (id_of s) (view rest) → record { answer = Ok Applied; book = q } ≡ reply b (run_book (abandon_live (at (view b) k)) (view b))
  unfolding abandon_live run
  abandon_answer {q} e =
      done_reply b Applied (sym (back_view q (next_sound b sound (id_of s) gone e)))
      (of_read abandon_live (view b) read
      (sym
      (bind_turn (withdraw (id_of s)) (done Applied) (view b)
      ∙ bind_on (withdraw (id_of s)) (λ _. done Applied) (view b) (withdraw_on b sound (id_of s) gone e))))
