-- Each way through the lookups is one law of `PlannedLaws`.
use Rattle.book.specs.Model.{view, id_list}
use Rattle.part_lookup.specs.Place.{has_id}
use Rattle.part_lookup.specs.PlaceLaws.{at_first}
use Rattle.book_answers.specs.declared.SubmissionDrainFailure.{SubmissionDrainFailure}
use Rattle.part_plan.specs.declared.PlanAction.TheVariants.{Passed}
use Rattle.part_plan.specs.declared.PlanAnswer.TheVariants.{Planned}
use Rattle.part_plan.specs.Plan.{failing}
use Rattle.call_drain.specs.PlannedLaws.{passed_over, without_id_lem, id_at, id_gone}
use mathlib.Core.Path.{sym, ap, ◌∙◌}
use Rattle.call_drain.proofs.plan_pending_submission.Goals as goal

pub returns-then-is_one_of : goal.returns-then-is_one_of
returns-then-is_one_of c =
    passed_over (view c.args.b.now) (id_list c.args.emitted.now) (id_list c.args.removed.now) c.args.n c.args.c.now (sym c.is_one_of.ensures ∙ c.if-is_one_of.true)
    (c.failing.ensures ∙ ap (λ (f : SubmissionDrainFailure). failing (Planned Passed) f) c.zero.ensures)

pub returns-in_default : goal.returns-in_default
returns-in_default c = without_id_lem (view c.args.b.now) (id_list c.args.emitted.now) (id_list c.args.removed.now) c.args.n c.args.c.now (sym c.is_one_of.ensures ∙ c.if-is_one_of.false) c.intent_of-f.ensures c.in_default.is c.plan_unnamed.ensures

pub returns-in_default-place : goal.returns-in_default-place
returns-in_default-place c =
    id_gone (view c.args.b.now) (id_list c.args.emitted.now) (id_list c.args.removed.now) c.args.n c.args.c.now (sym c.is_one_of.ensures ∙ c.if-is_one_of.false) c.intent_of-f.ensures c.in-Some.is
    (sym c.position_of-place.ensures ∙ c.in_default-place.is) c.fails.ensures

pub plan_known-requires : goal.plan_known-requires
plan_known-requires c = (c.requires.0, c.requires.1, (at_first (has_id _) (view c.args.b.now).submitted (sym c.position_of-place.ensures ∙ c.in-Some-place.is)).within)

pub returns : goal.returns
returns c =
    id_at (view c.args.b.now) (id_list c.args.emitted.now) (id_list c.args.removed.now) c.args.n c.args.c.now (sym c.is_one_of.ensures ∙ c.if-is_one_of.false) c.intent_of-f.ensures c.in-Some.is
    (sym c.position_of-place.ensures ∙ c.in-Some-place.is) c.plan_known.ensures
