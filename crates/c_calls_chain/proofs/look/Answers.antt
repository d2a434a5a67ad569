-- No book: 1. Else the reply of the call on the held book, told by the law of its kind of answer; its rules have no step, so the book stays.
use borrow.Author.Tests.{not-true, not-false}
use Rattle.c_boundary.specs.Forms.{gives_absent, reply_looked, tells_look}
use Rattle.c_boundary.specs.Looks.{looks_look}
use Rattle.c_calls_chain.proofs.look.Goals as goal

pub returns-then-not-h : goal.returns-then-not-h
returns-then-not-h c = gives_absent _ _ _ _ (c.held-h.ensures.absent (not-true _ c.if-not-h.true))

pub invariant_of-look_sound : goal.invariant_of-look_sound
invariant_of-look_sound c = record { sound = (c.held-h.ensures.present (not-false _ c.if-not-h.false)).sound }

pub returns : goal.returns
returns c = reply_looked tells_look _ _ _ (c.held-h.ensures.present (not-false _ c.if-not-h.false)) _ c.look_sound-r.ensures (looks_look _) c.tell_look.ensures
