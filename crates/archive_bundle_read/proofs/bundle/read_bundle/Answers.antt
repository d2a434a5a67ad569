-- The spends are a list of them.
use Rattle.archive_form.specs.Parse.{parse_bundle}
use Rattle.codec_cursor.specs.Cursor.{reads_then, ends_as}
use Rattle.archive_bundle_read.proofs.bundle.read_bundle.Goals as goal

pub returns : goal.returns
unfolding parse_bundle
returns c = let w = c.read_list-count.ensures in reads_then _ w.read (ends_as (λ i. record { count = w.long i; spends = w.same i }))
