-- The two answers: refused 10 as a 65th retirement, or the book with the id retired.
use Rattle.std.specs.Prelude.{true, ◌≡◌, ℕ, Ok, Err}
use Rattle.std.proofs.Common.{sym, ◌∙◌}
use Rattle.std.proofs.Math.Path.{ap}
use Rattle.book.specs.declared.BookData.{BookData}
use Rattle.book.specs.declared.refusal.Refusal.{Refusal}
use Rattle.book.specs.Model.{view}
use Rattle.book.specs.Sound.{soundb}
use Rattle.rules.specs.Rule.{done, turn, undone, run}
use Rattle.rules.specs.Steps.{run_book}
use Rattle.rules.specs.Calls.EmitRetirement.{emit_retirement}
use Rattle.part_replies.specs.Reply.{reply}
use Rattle.part_replies.specs.declared.Reply.{Reply}
use Rattle.part_lookup.specs.Normal.{sound_normal}
use Rattle.part_change.specs.Changes.{retiring}
use Rattle.part_sound_laws.specs.RetireLaws.{retire_book, run_full, run_retired}

module _ (b : BookData) (s : soundb b ≡ true) (i : ℕ) where
  pub emit_full : {n : Refusal} → Err n ≡ retiring i (view b) → reply b (undone n) ≡ reply b (run_book (emit_retirement i) (view b))
  unfolding emit_retirement
  emit_full e = ap (reply b) (sym (run_full i (view b) (sound_normal b s).fits e (turn (done tt))))

  pub emit_is : {q : BookData} → Ok q ≡ retiring i (view b) → record { answer = Ok tt; book = q } ≡ reply b (run_book (emit_retirement i) (view b))
  unfolding emit_retirement run
  emit_is e =
      ap {B = Reply (Unit {0}) BookData} (λ (o : BookData). record { answer = Ok tt; book = o }) (retire_book i (view b) (sound_normal b s).fits e)
      ∙ ap (reply b) (sym (run_retired i (view b) (sound_normal b s).fits e (turn (done tt))))
