use Rattle.codec_answers.specs.Drain.{encode_failures}
use Rattle.codec_answers.proofs.drained.append_failures.Goals as goal

pub returns : goal.returns
unfolding encode_failures
returns c = c.append_first.ensures
