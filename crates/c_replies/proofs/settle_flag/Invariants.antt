use Rattle.codec_forms.specs.Wire.{be}
use Rattle.codec_answers.specs.Forms.{flag_number}
use Rattle.c_replies.proofs.settle_flag.Given as goal

abbrev pub ghost-settle_value : goal.ghost-settle_value
ghost-settle_value c = λ t. be 1 (flag_number t)
