-- Done: the answer is put. Refused: the number alone.
use Rattle.std.proofs.Common.{ap, sym, List, ℕ}
use Rattle.std.specs.Prelude.{Result}
use Rattle.book.specs.declared.refusal.Refusal.{Refusal}
use Rattle.c_answer.specs.Answer.{answer_as}
use Rattle.c_boundary.specs.Looks.{told_by}
use Rattle.c_boundary.specs.Settle.{coded}
use Rattle.c_write.proofs.tell.Goals as goal

pub returns-in-Ok : goal.returns-in-Ok
returns-in-Ok c = answer_as (sym (ap (λ (x : Result (List ℕ) Refusal). told_by x c.args.answer.now) (ap (coded (λ _. c.args.l.now)) c.in-Ok.is))) c.put_answer.ensures
