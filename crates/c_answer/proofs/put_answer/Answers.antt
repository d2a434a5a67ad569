-- No room: 12. Else the answer over the old bytes.
use Rattle.c_answer.specs.Answer.{answer_short, answer_put}
use Rattle.c_answer.proofs.put_answer.Goals as goal

pub returns-then-answer-l : goal.returns-then-answer-l
returns-then-answer-l c = answer_short _ _ c.if-answer-l.true

pub returns : goal.returns
returns c = answer_put _ _ c.if-answer-l.false c.put_bytes.ensures
