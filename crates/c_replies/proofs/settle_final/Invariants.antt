use Rattle.codec_answers.specs.Forms.{enc_option, encode_final}
use Rattle.c_replies.proofs.settle_final.Given as goal

abbrev pub ghost-settle_value : goal.ghost-settle_value
ghost-settle_value c = enc_option encode_final
