-- Each item follows the one before it (`fits_join`).
use Rattle.codec_append.specs.Fits.{fits_join}
use Rattle.archive_form.specs.Encode.{encode_submitted}
use Rattle.archive_entry_write.proofs.append_submitted.Goals as goal

pub returns : goal.returns
unfolding encode_submitted
returns c = fits_join (fits_join c.append_number-id_end.ensures c.append_slots-slots_end.ensures) c.append_facts.ensures
