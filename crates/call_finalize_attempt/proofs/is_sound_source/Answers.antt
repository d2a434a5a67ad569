-- The two cases of `sound_source`: beside a joined source the bundle must be sound, beside any other zero.
use mathlib.Core.Path.{◌∙◌}
use Rattle.call_finalize_attempt.specs.Tests.{joined_sound, unjoined_zero}
use Rattle.call_finalize_attempt.proofs.is_sound_source.Goals as goal

pub returns-then-is_joined : goal.returns-then-is_joined
returns-then-is_joined c = c.is_sound_bundle.ensures ∙ joined_sound c.args.source c.args.joined c.is_joined.ensures c.if-is_joined.true

pub returns : goal.returns
returns c = c.is_zero.ensures ∙ unjoined_zero c.args.source c.args.joined c.is_joined.ensures c.if-is_joined.false
