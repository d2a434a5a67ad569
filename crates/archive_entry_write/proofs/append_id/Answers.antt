use Rattle.std.proofs.Common.{rules}
use Rattle.codec_append.specs.Fits.{fits_number_of}
use Rattle.book.specs.declared.SubmissionId.{SubmissionId}
use Rattle.archive_form.specs.Encode.{encode_id}
use Rattle.archive_entry_write.proofs.append_id.Goals as goal

pub returns : goal.returns
unfolding encode_id
returns c = fits_number_of (λ (i : SubmissionId). i.0) c.args.i (search rules) c.append_optional_number.ensures
