-- One byte where there is none, else the mark and the number.
use Rattle.std.proofs.Common.{rules}
use Rattle.codec_forms.specs.Puts.{no_number_size, some_number_size}
use Rattle.book.specs.declared.Height.{Height}
use Rattle.archive_bundle_form.specs.Forms.{encode_height}
use Rattle.archive_bundle_size.proofs.size_height.Goals as goal

pub returns-then-is_none : goal.returns-then-is_none
unfolding encode_height
returns-then-is_none c = no_number_size (λ (h : Height). h.0) c.args.h (search rules)

pub returns-else-is_none : goal.returns-else-is_none
unfolding encode_height
returns-else-is_none c = some_number_size (λ (h : Height). h.0) c.args.h (search rules)
