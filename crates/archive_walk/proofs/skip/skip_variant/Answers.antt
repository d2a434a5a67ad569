-- The mark decides between no fee bundle and one with its fee.
use Rattle.archive_form.specs.Parse.{parse_variant}
use Rattle.book.specs.Zero.{base_variant}
use Rattle.codec_cursor.specs.Cursor.{reads_absent}
use Rattle.archive_walk.specs.Skips.{skips, skips_then, skips_number, skips_end, skips_present}
use Rattle.archive_walk.proofs.skip.skip_variant.Goals as goal

pub returns-then-mark-eq0 : goal.returns-then-mark-eq0
unfolding parse_variant
returns-then-mark-eq0 c = skips (reads_absent base_variant _ c.read_count-mark.ensures.reads c.if-mark-eq0.true)

pub returns : goal.returns
unfolding parse_variant
returns c = skips_present base_variant c.read_count-mark.ensures.reads c.if-mark-eq0.false (skips_then _ c.skip_bundle.ensures (λ b. skips_then _ (skips_number 8 c.skip.ensures) (λ n. skips_end _)))
