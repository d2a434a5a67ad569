-- One law of specs/Deliveries for each way out, in the order of the checks.
use borrow.Author.Tests.{not-true, not-false}
use Rattle.std.proofs.Common.{sym, ◌∙◌}
use Rattle.c_calls_queue.specs.Deliveries.{delivery_absent, trigger_bad, goal_bad, delivery_done}
use Rattle.c_calls_queue.proofs.queue_retained_delivery.Goals as goal

pub returns-then-not-h : goal.returns-then-not-h
returns-then-not-h c = delivery_absent _ _ _ _ (c.held-h.ensures.absent (not-true _ c.if-not-h.true))

pub returns-in_default : goal.returns-in_default
returns-in_default c = trigger_bad _ _ _ _ _ (c.held-h.ensures.present (not-false _ c.if-not-h.false)) (sym c.trigger_in.ensures ∙ c.in_default.is)

pub returns-in_default-goal_in : goal.returns-in_default-goal_in
returns-in_default-goal_in c = goal_bad _ _ _ _ _ (c.held-h.ensures.present (not-false _ c.if-not-h.false)) (sym c.trigger_in.ensures ∙ c.in-Some.is) (sym c.goal_in.ensures ∙ c.in_default-goal_in.is)

pub invariant_of-queue_retained_delivery_sound : goal.invariant_of-queue_retained_delivery_sound
invariant_of-queue_retained_delivery_sound c = record { sound = (c.held-h.ensures.present (not-false _ c.if-not-h.false)).sound }

pub returns : goal.returns
returns c =
    delivery_done _ _ _ _ _ (c.held-h.ensures.present (not-false _ c.if-not-h.false)) (sym c.trigger_in.ensures ∙ c.in-Some.is) _ (sym c.goal_in.ensures ∙ c.in-Some-goal_in.is)
    c.queue_retained_delivery_sound-r.ensures c.settle_done.ensures
