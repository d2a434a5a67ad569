-- Coin, digest and run one behind the other.
use Rattle.archive_form.specs.Parse.{parse_spend}
use Rattle.archive_walk.specs.Skips.{skips_then, counted_passed, skips_end}
use Rattle.archive_walk.proofs.skip.skip_spend.Goals as goal

pub returns : goal.returns
unfolding parse_spend
returns c = skips_then _ (counted_passed c.read_count-n.ensures c.skip.ensures) (λ l. skips_then _ c.skip-2.ensures (λ d. skips_then _ c.skip_run.ensures (λ r. skips_end _)))
