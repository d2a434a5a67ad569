-- A token never issued is refused 4; for any other the normal book stays, which is what its lists say.
use Rattle.std.proofs.Common.{ap, ◌∙◌}
use Rattle.book.specs.Model.{view}
use Rattle.part_replies.specs.Reply.{reply}
use Rattle.part_attempt_answers.specs.Live.{inactive_never, inactive_issued}
use Rattle.part_attempt_answers.specs.Answers.{done_reply}
use Rattle.part_attempt_answers.proofs.inactive.Goals as goal

pub returns-then-is_never_issued : goal.returns-then-is_never_issued
returns-then-is_never_issued T c = c.refused.ensures ∙ ap (reply c.args.b) (inactive_never (view c.args.b) c.args.value c.args.place c.is_never_issued.ensures c.if-is_never_issued.true)

pub returns : goal.returns
returns T c = c.done.ensures ∙ done_reply c.args.b c.args.value c.requires.held (inactive_issued (view c.args.b) c.args.value c.args.place c.is_never_issued.ensures c.if-is_never_issued.false)
