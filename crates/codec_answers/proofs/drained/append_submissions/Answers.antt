use Rattle.codec_answers.specs.Drain.{encode_submissions}
use Rattle.codec_answers.proofs.drained.append_submissions.Goals as goal

pub returns : goal.returns
unfolding encode_submissions
returns c = c.append_first.ensures
