-- The byte appended is the status's number.
use Rattle.codec_append.specs.Fits.{within_byte}
use Rattle.codec_answers.specs.Numbers.{status_cast}
use Rattle.codec_answers.proofs.value.append_status.Goals as goal

pub returns : goal.returns
returns c = within_byte (status_cast c.args.s.now) c.append_byte.ensures
