-- Each item follows the one before it (`fits_join`).
use Rattle.codec_append.specs.Fits.{fits_join}
use Rattle.archive_write.proofs.write_numbers.Goals as goal

pub returns : goal.returns
returns c = fits_join (fits_join c.append_byte-count_end.ensures c.append_number-token_end.ensures) c.append_number.ensures
