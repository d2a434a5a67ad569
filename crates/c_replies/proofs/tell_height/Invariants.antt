use Rattle.archive_bundle_form.specs.Forms.{encode_height}
use Rattle.c_replies.proofs.tell_height.Given as goal

abbrev pub ghost-tell_value : goal.ghost-tell_value
ghost-tell_value c = encode_height
