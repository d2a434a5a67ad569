-- By the door's answer: what the call for a sound book answers, or the refusal.
use Rattle.std.proofs.Common.{ap, ◌∙◌}
use Rattle.part_replies.specs.Reply.{reply}
use Rattle.submission.specs.Answers.{with_book}
use Rattle.submission.specs.Door.{opened, shut}
use Rattle.submission.proofs.SubmissionBook.begin_replay.Goals as goal

pub returns-in-Ok : goal.returns-in-Ok
returns-in-Ok c = opened c.args.self.parts _ (λ b o. with_book (reply b o)) c.door.ensures c.in-Ok.is (c.answered.ensures ∙ ap with_book c.begin_replay_sound.ensures)

pub returns-in-Err : goal.returns-in-Err
returns-in-Err c = shut c.args.self.parts _ (λ b o. with_book (reply b o)) c.door.ensures c.in-Err.is (c.answered-in-Err.ensures ∙ ap with_book c.refused.ensures)
