use Rattle.codec_forms.specs.Wire.{be}
use Rattle.codec_answers.specs.Forms.{status_number}
use Rattle.c_replies.proofs.settle_status.Given as goal

abbrev pub ghost-settle_value : goal.ghost-settle_value
ghost-settle_value c = λ s. be 1 (status_number s)
