-- One law of specs/Deliveries for each way out, in the order of the checks.
use borrow.Author.Tests.{not-true, not-false}
use Rattle.std.proofs.Common.{sym, ◌∙◌}
use Rattle.c_calls_queue.specs.Deliveries.{epoch_absent, epoch_long, epoch_bad, epoch_done}
use Rattle.c_calls_queue.proofs.queue_rebroadcast_epoch.Goals as goal

pub returns-then-not-h : goal.returns-then-not-h
returns-then-not-h c = epoch_absent _ _ _ (c.held-h.ensures.absent (not-true _ c.if-not-h.true))

pub returns-then-ids-gt64 : goal.returns-then-ids-gt64
returns-then-ids-gt64 c = epoch_long _ _ _ _ (c.held-h.ensures.present (not-false _ c.if-not-h.false)) c.if-ids-gt64.true

pub returns-in_default : goal.returns-in_default
returns-in_default c = epoch_bad _ _ _ _ (c.held-h.ensures.present (not-false _ c.if-not-h.false)) c.if-ids-gt64.false (sym c.trigger_in.ensures ∙ c.in_default.is)

pub invariant_of-queue_rebroadcast_epoch_sound : goal.invariant_of-queue_rebroadcast_epoch_sound
invariant_of-queue_rebroadcast_epoch_sound c = record { sound = (c.held-h.ensures.present (not-false _ c.if-not-h.false)).sound }

pub returns : goal.returns
returns c =
    epoch_done _ _ _ _ (c.held-h.ensures.present (not-false _ c.if-not-h.false)) _ c.if-ids-gt64.false (sym c.trigger_in.ensures ∙ c.in-Some.is)
    c.queue_rebroadcast_epoch_sound-r.ensures c.settle_done.ensures
