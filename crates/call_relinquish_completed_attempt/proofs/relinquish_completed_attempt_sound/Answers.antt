-- `relinquish_run`: the reply of a token that is not live is that of the rules, by its place.
use mathlib.Core.Path.{ap, ◌∙◌}
use Rattle.book.specs.Model.{view}
use Rattle.part_replies.specs.Reply.{reply}
use Rattle.part_lookup.specs.Normal.{sound_normal}
use Rattle.call_relinquish_completed_attempt.specs.Relinquishing.{relinquish_run}
use Rattle.call_relinquish_completed_attempt.proofs.relinquish_completed_attempt_sound.Goals as goal

pub find_attempt-place-requires : goal.find_attempt-place-requires
find_attempt-place-requires c = sound_normal c.args.b.parts c.args.b.sound

pub inactive-requires : goal.inactive-requires
inactive-requires c = sound_normal c.args.b.parts c.args.b.sound

pub returns : goal.returns
returns c = c.inactive.ensures ∙ ap (reply c.args.b.parts) (relinquish_run c.args.t.0 (view c.args.b.parts) c.find_attempt-place.ensures c.relinquished.ensures)
