use Rattle.codec_answers.specs.Drain.{encode_handed_out}
use Rattle.c_replies.proofs.settle_drain.Given as goal

abbrev pub ghost-settle_value : goal.ghost-settle_value
ghost-settle_value c = encode_handed_out
