use Rattle.archive_bundle_form.specs.Forms.{encode_fee_intent}
use Rattle.codec_answers.specs.Forms.{enc_option}
use Rattle.c_replies.proofs.tell_fee_intent.Given as goal

abbrev pub ghost-tell_value : goal.ghost-tell_value
ghost-tell_value c = enc_option encode_fee_intent
