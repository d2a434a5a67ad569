-- The failures stand behind the submissions.
use Rattle.codec_append.specs.Fits.{within_join}
use Rattle.codec_answers.specs.Drain.{encode_handed_out}
use Rattle.codec_answers.proofs.drained.append_handed_out.Goals as goal

pub returns : goal.returns
unfolding encode_handed_out
returns c = within_join c.append_submissions-e.ensures c.append_failures.ensures
