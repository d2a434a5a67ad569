-- Each return is one case of `decision`: a fee open and a bundle joined or not, or no fee open and a source requested or not.
use mathlib.Core.Path.{refl, sym, ap, ◌∙◌}
use Rattle.std.specs.Prelude.{Ok}
use Rattle.book_answers.specs.declared.FinalizedSubmission.{FinalizedSubmission}
use Rattle.call_finalize_attempt.specs.Decision.{final_as, decides}
use Rattle.call_finalize_attempt.specs.Tests.{joined_sound}
use Rattle.call_finalize_attempt.proofs.decide.Goals as goal

pub attached-requires : goal.attached-requires
attached-requires c = joined_sound c.args.source c.args.joined c.is_joined.ensures c.if-is_joined.true ∙ c.requires

pub returns-then-is_joined : goal.returns-then-is_joined
returns-then-is_joined c =
    ap Ok c.attached.ensures
    ∙ decides c.args.source c.args.joined c.args.h.held (sym c.if-fee_unresolved.true ∙ c.fee_unresolved.ensures) (sym c.if-is_joined.true ∙ c.is_joined.ensures) refl

pub returns-then-fee_unresolved : goal.returns-then-fee_unresolved
returns-then-fee_unresolved c =
    ap Ok (c.decided.ensures ∙ ap (λ (x : FinalizedSubmission). final_as x c.args.h.held) c.unused_fee.ensures)
    ∙ decides c.args.source c.args.joined c.args.h.held (sym c.if-fee_unresolved.true ∙ c.fee_unresolved.ensures) (sym c.if-is_joined.false ∙ c.is_joined.ensures) refl

pub returns-then-is_not_requested : goal.returns-then-is_not_requested
returns-then-is_not_requested c =
    ap Ok (c.decided-then-is_not_requested.ensures ∙ ap (λ (x : FinalizedSubmission). final_as x c.args.h.held) c.current_final.ensures)
    ∙ decides c.args.source c.args.joined c.args.h.held (sym c.if-fee_unresolved.false ∙ c.fee_unresolved.ensures) refl (sym c.if-is_not_requested.true ∙ c.is_not_requested.ensures)

pub returns : goal.returns
returns c = decides c.args.source c.args.joined c.args.h.held (sym c.if-fee_unresolved.false ∙ c.fee_unresolved.ensures) refl (sym c.if-is_not_requested.false ∙ c.is_not_requested.ensures)
