-- The byte appended is the flag's number, which is what its one-byte form names.
use Rattle.codec_append.specs.Fits.{within_byte}
use Rattle.codec_answers.specs.Numbers.{flag_cast}
use Rattle.codec_answers.proofs.part.append_flag.Goals as goal

pub returns : goal.returns
returns c = within_byte (flag_cast c.args.b.now) c.append_byte.ensures
