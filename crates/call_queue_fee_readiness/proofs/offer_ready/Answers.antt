-- Two cases: a ready submission runs the rules of `offer` with its goal; any other leaves the sound book as it is.
use mathlib.Core.Bool.{true, false}
use mathlib.Core.Path.{◌≡◌, sym, ap, ◌∙◌}
use Rattle.book.specs.declared.DeliveryTrigger.TheVariants.{ProviderReadiness}
use Rattle.book.specs.declared.SubmissionDeliveryGoal.{SubmissionDeliveryGoal}
use Rattle.book.specs.Model.{view}
use Rattle.book.specs.Sound.{id_of}
use Rattle.rules.specs.Steps.{run_book}
use Rattle.rules.specs.Calls.Offer.{offer}
use Rattle.call_queue_fee_readiness.specs.Readiness.{is_ready, ready_offered, ready_not}
use Rattle.call_queue_fee_readiness.proofs.offer_ready.Goals as goal

pub returns-then-active-unresolved : goal.returns-then-active-unresolved
returns-then-active-unresolved c =
    let r : is_ready c.args.t ≡ true = cc in
    ready_offered c.args.t (view c.args.b.parts) r ∙ ap (λ (g : SubmissionDeliveryGoal). run_book (offer (id_of c.args.t) ProviderReadiness g) (view c.args.b.parts)) (sym c.goal_for.ensures)
    ∙ c.offer.ensures

pub returns : goal.returns
returns c =
    let r : is_ready c.args.t ≡ false = cc in
    ready_not c.args.t (view c.args.b.parts) r
