-- Each item follows the one before it (`fits_join`).
use Rattle.codec_append.specs.Fits.{fits_join}
use Rattle.archive_bundle_form.specs.Forms.{encode_spend}
use Rattle.archive_bundle_write.proofs.write.append_spend.Goals as goal

pub returns : goal.returns
unfolding encode_spend
returns c = fits_join (fits_join c.append_coin-a.ensures c.append_bytes-b.ensures) c.append_run.ensures
