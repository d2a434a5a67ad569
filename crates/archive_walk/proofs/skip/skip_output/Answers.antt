-- A hash, and a number behind it.
use Rattle.archive_form.specs.Parse.{parse_output}
use Rattle.archive_walk.specs.Skips.{skips_then, skips_number, skips_end}
use Rattle.archive_walk.proofs.skip.skip_output.Goals as goal

pub returns : goal.returns
unfolding parse_output
returns c = skips_then _ c.skip.ensures (λ h. skips_then _ (skips_number 8 c.skip-2.ensures) (λ n. skips_end _))
