use Rattle.archive_form.specs.Parse.{parse_bundle}
use Rattle.archive_walk.specs.Skips.{skips, skips_then, skips_end}
use Rattle.archive_walk.proofs.skip.skip_bundle.Goals as goal

pub returns : goal.returns
unfolding parse_bundle
returns c = skips_then _ (skips c.skip_list.ensures.reads.read) (λ l. skips_end _)
