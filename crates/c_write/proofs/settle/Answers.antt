-- Done: what `put_both` promises is `finish` of `Ok`.
use Rattle.std.proofs.Common.{ap}
use Rattle.c_boundary.specs.Settle.{coded, gives_done}
use Rattle.c_write.proofs.settle.Goals as goal

pub returns-in-Ok : goal.returns-in-Ok
returns-in-Ok c = gives_done c.args.next c.args.book.now c.args.answer.now (ap (coded (λ _. c.args.l.now)) c.in-Ok.is) c.put_both.ensures
