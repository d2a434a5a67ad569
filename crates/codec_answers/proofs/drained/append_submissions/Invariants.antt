use Rattle.codec_answers.specs.Forms.{encode_drained}
use Rattle.codec_answers.proofs.drained.append_submissions.Given as goal

abbrev pub ghost-append_first : goal.ghost-append_first
ghost-append_first a = (encode_drained, 1149)
