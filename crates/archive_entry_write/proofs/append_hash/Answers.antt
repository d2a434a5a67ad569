-- Each item follows the one before it (`fits_join`).
use Rattle.std.proofs.Common.{not, ap}
use Rattle.codec_append.specs.Fits.{fits_absent_part, fits_present_part}
use Rattle.archive_form.specs.Encode.{encode_hash}
use Rattle.archive_entry_write.proofs.append_hash.Goals as goal

pub returns-then-h : goal.returns-then-h
unfolding encode_hash
returns-then-h c = fits_present_part c.args.h.present (ap not c.if-h.true) c.append_byte-e.ensures c.append_bytes.ensures

pub returns-else-h : goal.returns-else-h
unfolding encode_hash
returns-else-h c = fits_absent_part c.args.h.present c.args.h.hash (ap not c.if-h.false) c.append_byte.ensures
