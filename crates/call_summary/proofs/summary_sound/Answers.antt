-- The counts that the book keeps are the lengths of its lists (`summary_is_lem`).
use mathlib.Core.Path.{◌∙◌}
use Rattle.call_summary.specs.Counting.{summary_is_lem}
use Rattle.call_summary.proofs.summary_sound.Goals as goal

pub returns : goal.returns
returns c = c.done.ensures ∙ summary_is_lem c.args.b.parts c.args.b.sound
