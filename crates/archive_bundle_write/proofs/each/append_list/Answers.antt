-- The count's byte, and the parts behind it (`fits_join`).
use Rattle.std.proofs.Common.{length}
use Rattle.codec_forms.specs.Wire.{enc_list}
use Rattle.codec_append.specs.Fits.{fits_join, fits_as}
use Rattle.archive_bundle_write.specs.Laws.{count_byte}
use Rattle.archive_bundle_write.proofs.each.append_list.Goals as goal

pub returns : goal.returns
unfolding enc_list
returns g c = fits_join (fits_as (count_byte (length c.args.parts.now)) c.append_byte-e.ensures) c.append_each.ensures
