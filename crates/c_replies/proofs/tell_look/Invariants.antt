use Rattle.codec_answers.specs.Forms.{enc_option, encode_look}
use Rattle.c_replies.proofs.tell_look.Given as goal

abbrev pub ghost-tell_value : goal.ghost-tell_value
ghost-tell_value c = enc_option encode_look
