use Rattle.archive_bundle_form.specs.Forms.{encode_fee_intent}
use Rattle.codec_answers.proofs.value.append_optional_fee_intent.Given as goal

abbrev pub ghost-append_option : goal.ghost-append_option
ghost-append_option c = (encode_fee_intent, 41)
