-- Each item follows the one before it (`fits_join`).
use Rattle.std.proofs.Common.{not, ap, ◌++◌}
use Rattle.codec_append.specs.Fits.{fits_join, fits_absent_part, fits_present_part}
use Rattle.codec_forms.specs.Wire.{be}
use Rattle.archive_bundle_form.specs.Forms.{encode_bundle}
use Rattle.archive_form.specs.Encode.{encode_variant}
use Rattle.archive_entry_write.proofs.append_variant.Goals as goal

pub returns-then-v : goal.returns-then-v
unfolding encode_variant
returns-then-v c = fits_present_part c.args.v.now.fee_bearing (ap not c.if-v.true) c.append_byte-mark_end.ensures (fits_join c.append_bundle-bundle_end.ensures c.append_number.ensures)

pub returns-else-v : goal.returns-else-v
unfolding encode_variant
returns-else-v c = fits_absent_part c.args.v.now.fee_bearing (encode_bundle c.args.v.now.bundle ++ be 8 c.args.v.now.applied_fee) (ap not c.if-v.false) c.append_byte.ensures
