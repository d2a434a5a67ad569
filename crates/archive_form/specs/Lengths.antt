-- How long the parts of fixed or few bytes are.
use Rattle.std.specs.Prelude.{◌≤◌, ◌≡◌, ◌++◌, length}
use Rattle.std.proofs.Common.{arith, length-append}
use Rattle.codec_forms.specs.Wire.{be}
use Rattle.codec_forms.specs.Number.{be_length}
use Rattle.codec_forms.specs.Puts.{opt_number_few}
use Rattle.book.specs.Model.{Book}
use Rattle.std.specs.Prelude.{Option}
use Rattle.book.specs.declared.SubmissionId.{SubmissionId}
use Rattle.archive_form.specs.Encode.{encode_id, encode_numbers}

pub id_size : (i : Option SubmissionId) → length (encode_id i) ≤ 9
unfolding encode_id
id_size = opt_number_few (λ i. i.0)

pub numbers_size : (m : Book) → length (encode_numbers m) ≡ 17
unfolding encode_numbers
numbers_size m = omega (arith, length-append (be 1 2 ++ be 8 m.next_token.0) (be 8 m.next_id.0), length-append (be 1 2) (be 8 m.next_token.0), be_length 1 2, be_length 8 m.next_token.0, be_length 8 m.next_id.0)
