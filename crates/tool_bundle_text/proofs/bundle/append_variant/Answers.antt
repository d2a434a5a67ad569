-- By the mark: the bundle, its fee and the sentence, or one line where there is no fee bundle.
use Rattle.codec_append.specs.Fits.{fits_join, fits_as}
use Rattle.std.proofs.Common.{sym}
use Rattle.std.proofs.lemmas.Bool.{cond-true, cond-false}
use Rattle.tool_bundle_text.specs.Bundles.{variant_text}
use Rattle.tool_bundle_text.proofs.bundle.append_variant.Goals as goal

pub returns-then-v : goal.returns-then-v
unfolding variant_text
returns-then-v c =
    fits_as (sym (cond-true _ _ _ c.if-v.true))
    (fits_join (fits_join c.append_bundle-bundle_end.ensures c.append_number_line-fee_end.ensures) c.append_bytes.ensures)

pub returns-else-v : goal.returns-else-v
unfolding variant_text
returns-else-v c = fits_as (sym (cond-false _ _ _ c.if-v.false)) c.append_bytes-else-v.ensures
