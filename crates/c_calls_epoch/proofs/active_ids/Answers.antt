-- No book: 1. Else the reply of the call on the held book, told by the law of its kind of answer; its rules have no step, so the book stays.
use borrow.Author.Tests.{not-true, not-false}
use Rattle.c_boundary.specs.Forms.{gives_absent, looked_reply, tells_ids}
use Rattle.c_boundary.specs.Looks.{looks_active_ids}
use Rattle.c_calls_epoch.proofs.active_ids.Goals as goal

pub returns-then-not-h : goal.returns-then-not-h
returns-then-not-h c = gives_absent _ _ _ _ (c.held-h.ensures.absent (not-true _ c.if-not-h.true))

pub invariant_of-active_ids_sound : goal.invariant_of-active_ids_sound
invariant_of-active_ids_sound c = record { sound = (c.held-h.ensures.present (not-false _ c.if-not-h.false)).sound }

pub returns : goal.returns
returns c = looked_reply tells_ids _ _ _ (c.held-h.ensures.present (not-false _ c.if-not-h.false)) _ c.active_ids_sound-r.ensures (looks_active_ids) c.tell_ids.ensures
