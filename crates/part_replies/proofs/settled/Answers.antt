-- By the outcome: `settled_ok` puts the sound book for what its lists say.
use Rattle.std.proofs.Common.{sym, ap, ◌∙◌}
use Rattle.part_replies.specs.Reply.{reply, outcome_by}
use Rattle.part_replies.specs.Settled.{settled_ok}
use Rattle.part_replies.proofs.settled.Goals as goal

pub returns-in-Ok : goal.returns-in-Ok
returns-in-Ok g c = c.done.ensures ∙ settled_ok c.args.b c.args.value c.in-Ok.next ∙ ap (λ o. reply c.args.b (outcome_by c.args.value o)) (sym c.in-Ok.is)
