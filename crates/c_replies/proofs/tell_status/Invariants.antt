use Rattle.codec_forms.specs.Wire.{be}
use Rattle.codec_answers.specs.Forms.{status_number}
use Rattle.c_replies.proofs.tell_status.Given as goal

abbrev pub ghost-tell_value : goal.ghost-tell_value
ghost-tell_value c = λ s. be 1 (status_number s)
