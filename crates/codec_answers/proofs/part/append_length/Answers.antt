-- The last four of the number's eight bytes are its four-byte form, by the definition of `be`.
use Rattle.codec_forms.specs.Wire.{be}
use Rattle.codec_answers.proofs.part.append_length.Goals as goal

pub returns : goal.returns
unfolding be
returns c = rw c.number_bytes-a.ensures at c.append_bytes.ensures
