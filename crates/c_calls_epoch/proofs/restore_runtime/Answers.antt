-- No book: 1. Else the reply of the call on the held book, put back by the law of its kind of answer.
use borrow.Author.Tests.{not-true, not-false}
use Rattle.rules.specs.Calls.RestoreRuntime.{restore_runtime}
use Rattle.c_boundary.specs.Forms.{gives_book_absent, reply_book, tells_nothing, no_form}
use Rattle.c_calls_epoch.proofs.restore_runtime.Goals as goal

pub returns-then-not-h : goal.returns-then-not-h
returns-then-not-h c = gives_book_absent no_form (restore_runtime) c.args.book.now (c.held-h.ensures.absent (not-true _ c.if-not-h.true))

pub invariant_of-restore_runtime_sound : goal.invariant_of-restore_runtime_sound
invariant_of-restore_runtime_sound c = record { sound = (c.held-h.ensures.present (not-false _ c.if-not-h.false)).sound }

pub returns : goal.returns
returns c = reply_book tells_nothing _ _ _ (c.held-h.ensures.present (not-false _ c.if-not-h.false)) _ c.restore_runtime_sound-r.ensures c.settle_done.ensures
