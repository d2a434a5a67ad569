-- Each item follows the one before it (`fits_join`).
use Rattle.std.proofs.Common.{not, ap}
use Rattle.codec_append.specs.Fits.{fits_absent_part, fits_present_part}
use Rattle.archive_form.specs.Encode.{encode_slot, encode_attempt}
use Rattle.archive_entry_write.proofs.append_slot.Goals as goal

pub returns-then-a : goal.returns-then-a
unfolding encode_slot
returns-then-a c = fits_present_part c.args.a.present (ap not c.if-a.true) c.append_byte-e.ensures c.append_attempt.ensures

pub returns-else-a : goal.returns-else-a
unfolding encode_slot
returns-else-a c = fits_absent_part c.args.a.present (encode_attempt c.args.a.attempt) (ap not c.if-a.false) c.append_byte.ensures
