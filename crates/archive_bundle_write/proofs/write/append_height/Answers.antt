use Rattle.std.proofs.Common.{rules}
use Rattle.codec_append.specs.Fits.{fits_number_of}
use Rattle.book.specs.declared.Height.{Height}
use Rattle.archive_bundle_form.specs.Forms.{encode_height}
use Rattle.archive_bundle_write.proofs.write.append_height.Goals as goal

pub returns : goal.returns
unfolding encode_height
returns c = fits_number_of (λ (h : Height). h.0) c.args.h (search rules) c.append_optional_number.ensures
