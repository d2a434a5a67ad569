use Rattle.codec_answers.specs.Drain.{encode_failure}
use Rattle.codec_answers.proofs.drained.append_failures.Given as goal

abbrev pub ghost-append_first : goal.ghost-append_first
ghost-append_first a = (encode_failure, 59)
