use Rattle.codec_answers.specs.Forms.{encode_final}
use Rattle.codec_answers.proofs.value.append_optional_finalized.Given as goal

abbrev pub ghost-append_option : goal.ghost-append_option
ghost-append_option c = (encode_final, 1116)
