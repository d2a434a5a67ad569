-- By the cases of the two heights: where both are there `min` picks the smaller, else it is the one that is there.
use Rattle.std.proofs.Common.{◌∙◌}
use Rattle.part_submitted.specs.Laws.{none_first, none_second, both}
use Rattle.part_submitted.proofs.entry.min_expiry.Goals.{in_default-via-in-Some+in_default, in_default-via-in_default}
use Rattle.part_submitted.proofs.entry.min_expiry.Goals as goal

pub returns-in-Some-Some : goal.returns-in-Some-Some
returns-in-Some-Some c = both c.args.a c.args.b c.in-Some-Some.is-0 c.in-Some-Some.is-1 c.min.ensures

pub returns-in_default : goal.returns-in_default
returns-in_default c = c.or.ensures ∙ elim c.in_default.branch [ in_default-via-in-Some+in_default w ↦ none_second c.args.a c.args.b w.in_default.is-1 | in_default-via-in_default w ↦ none_first c.args.a c.args.b w.in_default.is-0 ]
