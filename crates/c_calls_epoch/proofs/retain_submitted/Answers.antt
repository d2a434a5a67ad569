-- No book: 1. Else the reply of the call on the held book, put back by the law of its kind of answer.
use borrow.Author.Tests.{not-true, not-false}
use Rattle.c_boundary.specs.Forms.{gives_absent, given_reply, tells_ids}
use Rattle.c_calls_epoch.proofs.retain_submitted.Goals as goal

pub returns-then-not-h : goal.returns-then-not-h
returns-then-not-h c = gives_absent _ _ _ _ (c.held-h.ensures.absent (not-true _ c.if-not-h.true))

pub invariant_of-retain_submitted_sound : goal.invariant_of-retain_submitted_sound
invariant_of-retain_submitted_sound c = record { sound = (c.held-h.ensures.present (not-false _ c.if-not-h.false)).sound }

pub returns : goal.returns
returns c = given_reply tells_ids _ _ _ (c.held-h.ensures.present (not-false _ c.if-not-h.false)) _ c.retain_submitted_sound-r.ensures c.settle_ids.ensures
