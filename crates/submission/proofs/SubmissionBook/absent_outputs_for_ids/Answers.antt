-- By the door's answer: what the call for a sound book answers, or the refusal.
use Rattle.std.proofs.Common.{ap, ◌∙◌, refl}
use Rattle.part_replies.specs.Reply.{written_reply, buffer_left}
use Rattle.codec_forms.specs.Wire.{overlay}
use Rattle.submission.specs.Answers.{with_book}
use Rattle.submission.specs.Door.{opened, shut}
use Rattle.submission.proofs.SubmissionBook.absent_outputs_for_ids.Goals as goal

pub returns-in-Ok : goal.returns-in-Ok
returns-in-Ok c = (
  opened c.args.self.parts _ (λ b o. with_book (written_reply b o)) c.door.ensures c.in-Ok.is (c.answered.ensures ∙ ap with_book c.absent_outputs_for_ids_sound.ensures.0),
  opened c.args.self.parts _ (λ b o. buffer_left c.args.out.now o) c.door.ensures c.in-Ok.is c.absent_outputs_for_ids_sound.ensures.1,
)

pub returns-in-Err : goal.returns-in-Err
unfolding overlay
returns-in-Err c = (
  shut c.args.self.parts _ (λ b o. with_book (written_reply b o)) c.door.ensures c.in-Err.is (c.answered-in-Err.ensures ∙ ap with_book c.refused.ensures),
  shut c.args.self.parts _ (λ b o. buffer_left c.args.out.now o) c.door.ensures c.in-Err.is refl,
)
