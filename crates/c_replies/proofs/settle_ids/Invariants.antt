use Rattle.codec_answers.specs.Forms.{encode_ids}
use Rattle.c_replies.proofs.settle_ids.Given as goal

abbrev pub ghost-settle_value : goal.ghost-settle_value
ghost-settle_value c = encode_ids
