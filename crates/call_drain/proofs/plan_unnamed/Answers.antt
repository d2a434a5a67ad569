-- Two cases of the first submission of equal fingerprint: none, and the unknown plan holds; one at `k`, and the known plan does.
use Rattle.book.specs.Model.{view, id_list}
use Rattle.part_lookup.specs.Place.{has_intent}
use Rattle.part_lookup.specs.PlaceLaws.{at_first}
use Rattle.call_drain.specs.PlannedLaws.{unnamed_at, unnamed_none}
use mathlib.Core.Path.{sym, ◌∙◌}
use Rattle.call_drain.proofs.plan_unnamed.Goals as goal

pub returns-in_default : goal.returns-in_default
returns-in_default c = unnamed_none (view c.args.b.now) (id_list c.args.emitted.now) c.args.n c.args.c.now c.args.f (sym c.position_of_intent-place.ensures ∙ c.in_default.is) c.plan_unknown.ensures

pub plan_known-requires : goal.plan_known-requires
plan_known-requires c = (c.requires.0, c.requires.1, (at_first (has_intent c.args.f) (view c.args.b.now).submitted (sym c.position_of_intent-place.ensures ∙ c.in-Some.is)).within)

pub returns : goal.returns
returns c = unnamed_at (view c.args.b.now) (id_list c.args.emitted.now) c.args.n c.args.c.now c.args.f (sym c.position_of_intent-place.ensures ∙ c.in-Some.is) c.plan_known.ensures
