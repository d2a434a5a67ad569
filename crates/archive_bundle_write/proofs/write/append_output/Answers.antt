-- Each item follows the one before it (`fits_join`).
use Rattle.codec_append.specs.Fits.{fits_join}
use Rattle.archive_bundle_form.specs.Forms.{encode_output}
use Rattle.archive_bundle_write.proofs.write.append_output.Goals as goal

pub returns : goal.returns
unfolding encode_output
returns c = fits_join c.append_bytes-e.ensures c.append_number.ensures
