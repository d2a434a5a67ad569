use Rattle.std.proofs.Common.{rules}
use Rattle.codec_append.specs.Fits.{fits_number_of}
use Rattle.book.specs.declared.Token.{Token}
use Rattle.codec_answers.specs.Forms.{encode_token}
use Rattle.codec_answers.proofs.drained.append_token.Goals as goal

pub returns : goal.returns
unfolding encode_token
returns c = fits_number_of (λ (t : Token). t.0) c.args.t (search rules) c.append_optional_number.ensures
