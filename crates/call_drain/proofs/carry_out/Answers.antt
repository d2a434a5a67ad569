-- What both plans that store ask of the book is a place in it.
use mathlib.Core.Logic.{⊎_elim}
use mathlib.Core.Path.{subst}
use Rattle.book.specs.Model.{view}
use Rattle.part_lookup.specs.Normal.{sizes}
use Rattle.part_plan.specs.declared.PlanAction.{PlanAction}
use Rattle.call_drain.specs.Carried.{FitsBy, InPlace}
use Rattle.call_drain.proofs.carry_out.Goals as goal

pub store-requires : goal.store-requires
store-requires c =
    let asks = λ (k : PlanAction). FitsBy k c.args.p.now (view c.args.b.now) in
    let place : InPlace c.args.p.now.place (view c.args.b.now) = ⊎_elim (λ e. subst asks e c.requires.1) (λ e. subst asks e c.requires.1) c.in-Stored.is in
    (place.below, (sizes c.args.b.now c.requires.0).submitted_long)
