-- No book: 1. Else the reply of the call on the held book, put back by the law of its kind of answer.
use borrow.Author.Tests.{not-true, not-false}
use Rattle.c_boundary.specs.Forms.{gives_book_absent, reply_book, tells_nothing}
use Rattle.c_calls_queue.proofs.collect_rollback_replay_ids.Goals as goal

pub returns-then-not-h : goal.returns-then-not-h
returns-then-not-h c = gives_book_absent _ _ c.args.book.now (c.held-h.ensures.absent (not-true _ c.if-not-h.true))

pub invariant_of-collect_rollback_replay_ids_sound : goal.invariant_of-collect_rollback_replay_ids_sound
invariant_of-collect_rollback_replay_ids_sound c = record { sound = (c.held-h.ensures.present (not-false _ c.if-not-h.false)).sound }

pub returns : goal.returns
returns c = reply_book tells_nothing _ _ _ (c.held-h.ensures.present (not-false _ c.if-not-h.false)) _ c.collect_rollback_replay_ids_sound-r.ensures c.settle_done.ensures
