-- Each item follows the one before it (`fits_join`).
use Rattle.codec_append.specs.Fits.{fits_join}
use Rattle.archive_form.specs.Encode.{encode_slots}
use Rattle.archive_entry_write.proofs.append_slots.Goals as goal

pub returns : goal.returns
unfolding encode_slots
returns c = fits_join c.append_slot-e.ensures c.append_slot.ensures
