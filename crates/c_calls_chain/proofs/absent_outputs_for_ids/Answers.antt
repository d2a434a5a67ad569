-- No book: 1. Else what the call wrote and its length, or its refusal; the book stays.
use borrow.Author.Tests.{not-true, not-false}
use lib.ListN.{length}
use Rattle.c_calls_chain.specs.Quiet.{bytes_absent, bytes_done, bytes_refused, refusal_cast, absent_quiet}
use Rattle.c_calls_chain.proofs.absent_outputs_for_ids.Goals as goal

pub returns-then-not-h : goal.returns-then-not-h
returns-then-not-h c = bytes_absent _ _ _ _ (c.held-h.ensures.absent (not-true _ c.if-not-h.true))

pub invariant_of-absent_outputs_for_ids_sound : goal.invariant_of-absent_outputs_for_ids_sound
invariant_of-absent_outputs_for_ids_sound c = record { sound = (c.held-h.ensures.present (not-false _ c.if-not-h.false)).sound }

pub returns-in-Ok : goal.returns-in-Ok
returns-in-Ok c =
    let h = c.held-h.ensures.present (not-false _ c.if-not-h.false) in
    bytes_done _ _ _ h _ _ _ (absent_quiet c.args.ids.now c.args.absent.now (length c.args.answer.now) _) c.absent_outputs_for_ids_sound-r.ensures.0 c.absent_outputs_for_ids_sound-r.ensures.1 c.in-Ok.is

pub returns-in-Err : goal.returns-in-Err
returns-in-Err c =
    let h = c.held-h.ensures.present (not-false _ c.if-not-h.false) in
    rw (refusal_cast c.in-Err.refusal) (bytes_refused _ _ _ h _ _ _ (absent_quiet c.args.ids.now c.args.absent.now (length c.args.answer.now) _) c.absent_outputs_for_ids_sound-r.ensures.0 c.absent_outputs_for_ids_sound-r.ensures.1 _ c.in-Err.is)
