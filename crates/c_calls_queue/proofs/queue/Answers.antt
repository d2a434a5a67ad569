-- One law of specs/Deliveries for each way out, in the order of the checks.
use borrow.Author.Tests.{not-true, not-false}
use Rattle.c_calls_queue.specs.Deliveries.{queue_absent, queue_bad, queue_done}
use Rattle.c_boundary.specs.Arguments.{bytes_bad, bytes_over, bytes_got}
use Rattle.archive_form.specs.Parse.{parse_delivery}
use Rattle.c_calls_queue.proofs.queue.Goals as goal

pub returns-then-not-h : goal.returns-then-not-h
returns-then-not-h c = queue_absent _ _ (c.held-h.ensures.absent (not-true _ c.if-not-h.true))

pub returns-then-end-ge-FAR : goal.returns-then-end-ge-FAR
returns-then-end-ge-FAR c = queue_bad _ _ _ (c.held-h.ensures.present (not-false _ c.if-not-h.false)) (bytes_bad parse_delivery _ c.read_delivery-d.ensures c.if-end-ge-FAR.true)

pub returns-then-end-delivery : goal.returns-then-end-delivery
returns-then-end-delivery c =
    queue_bad _ _ _ (c.held-h.ensures.present (not-false _ c.if-not-h.false))
    (bytes_over parse_delivery _ c.read_delivery-d.ensures c.if-end-ge-FAR.false c.if-end-delivery.true)

pub invariant_of-queue_sound : goal.invariant_of-queue_sound
invariant_of-queue_sound c = record { sound = (c.held-h.ensures.present (not-false _ c.if-not-h.false)).sound }

pub returns : goal.returns
returns c =
    queue_done _ _ _ (c.held-h.ensures.present (not-false _ c.if-not-h.false)) _
    (bytes_got parse_delivery _ c.read_delivery-d.ensures c.if-end-ge-FAR.false c.if-end-delivery.false)
    c.queue_sound-r.ensures c.settle_done.ensures
