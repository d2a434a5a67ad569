use Rattle.codec_answers.specs.Forms.{encode_ids}
use Rattle.c_replies.proofs.tell_ids.Given as goal

abbrev pub ghost-tell_value : goal.ghost-tell_value
ghost-tell_value c = encode_ids
