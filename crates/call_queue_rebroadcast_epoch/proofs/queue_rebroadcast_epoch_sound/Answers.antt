-- More than 64 ids the rules refuse with 2; else the call is the rebroadcast of the list, which is settled.
use Rattle.std.proofs.Common.{sym, ap, ◌∙◌}
use Rattle.book.specs.Model.{view}
use Rattle.part_replies.specs.Reply.{reply}
use Rattle.call_queue_rebroadcast_epoch.specs.Rebroadcast.{epoch_long, epoch_taken}
use Rattle.call_queue_rebroadcast_epoch.proofs.queue_rebroadcast_epoch_sound.Goals as goal

pub returns-then-ids-gt64 : goal.returns-then-ids-gt64
returns-then-ids-gt64 c = c.refused.ensures ∙ ap (reply c.args.b.parts) (sym (epoch_long c.args.ids.now c.args.trigger (view c.args.b.parts) c.if-ids-gt64.true))

pub returns : goal.returns
returns c =
    c.settled.ensures
    ∙ ap (reply c.args.b.parts) (sym (epoch_taken c.args.ids.now c.args.trigger (view c.args.b.parts) c.if-ids-gt64.false ∙ c.rebroadcast.ensures))
