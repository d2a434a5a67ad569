-- No book: 1. Else the reply of the call on the held book, put back by the law of its kind of answer.
use borrow.Author.Tests.{not-true, not-false}
use Rattle.c_boundary.specs.Forms.{gives_absent, reply_given, tells_status}
use Rattle.c_calls_attempts.proofs.stop_attempt.Goals as goal

pub returns-then-not-h : goal.returns-then-not-h
returns-then-not-h c = gives_absent _ _ _ _ (c.held-h.ensures.absent (not-true _ c.if-not-h.true))

pub invariant_of-stop_attempt_sound : goal.invariant_of-stop_attempt_sound
invariant_of-stop_attempt_sound c = record { sound = (c.held-h.ensures.present (not-false _ c.if-not-h.false)).sound }

pub returns : goal.returns
returns c = reply_given tells_status _ _ _ (c.held-h.ensures.present (not-false _ c.if-not-h.false)) _ c.stop_attempt_sound-r.ensures c.settle_status.ensures
