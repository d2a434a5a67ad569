-- One byte where there is none, else the mark and the number.
use Rattle.std.proofs.Common.{rules}
use Rattle.codec_forms.specs.Puts.{no_number_size, some_number_size}
use Rattle.book.specs.declared.SubmissionId.{SubmissionId}
use Rattle.archive_form.specs.Encode.{encode_id}
use Rattle.archive_size.proofs.size_id.Goals as goal

pub returns-then-is_none : goal.returns-then-is_none
unfolding encode_id
returns-then-is_none c = no_number_size (λ (i : SubmissionId). i.0) c.args.i (search rules)

pub returns-else-is_none : goal.returns-else-is_none
unfolding encode_id
returns-else-is_none c = some_number_size (λ (i : SubmissionId). i.0) c.args.i (search rules)
