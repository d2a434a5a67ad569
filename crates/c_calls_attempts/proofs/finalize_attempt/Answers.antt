-- One law of specs/Finalize for each way out, in the order of the checks.
use borrow.Author.Tests.{not-true, not-false}
use Rattle.std.proofs.Common.{sym, ◌∙◌}
use Rattle.c_calls_attempts.specs.Finalize.{finalize_absent, source_bad, joined_bad, finalize_done}
use Rattle.c_calls_attempts.proofs.finalize_attempt.Goals as goal

pub returns-then-not-h : goal.returns-then-not-h
returns-then-not-h c = finalize_absent c.args.book.now c.args.token c.args.source c.args.joined.now c.args.answer.now (c.held-h.ensures.absent (not-true _ c.if-not-h.true))

pub returns-in_default : goal.returns-in_default
returns-in_default c = source_bad _ _ _ _ _ _ (c.held-h.ensures.present (not-false _ c.if-not-h.false)) (sym c.from_number.ensures ∙ c.in_default.is)

pub returns-in_default-joined_in : goal.returns-in_default-joined_in
returns-in_default-joined_in c =
    joined_bad _ _ _ _ _ _ (c.held-h.ensures.present (not-false _ c.if-not-h.false)) (sym c.from_number.ensures ∙ c.in-Some.is) (sym c.joined_in.ensures ∙ c.in_default-joined_in.is)

pub invariant_of-finalize_attempt_sound : goal.invariant_of-finalize_attempt_sound
invariant_of-finalize_attempt_sound c = record { sound = (c.held-h.ensures.present (not-false _ c.if-not-h.false)).sound }

pub returns : goal.returns
returns c =
    finalize_done _ _ _ _ _ _ (c.held-h.ensures.present (not-false _ c.if-not-h.false)) (sym c.from_number.ensures ∙ c.in-Some.is) (sym c.joined_in.ensures ∙ c.in-Some-joined_in.is)
    c.finalize_attempt_sound-r.ensures c.settle_final.ensures
