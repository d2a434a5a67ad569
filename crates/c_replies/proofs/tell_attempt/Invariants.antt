use Rattle.archive_form.specs.Encode.{encode_slot}
use Rattle.c_replies.proofs.tell_attempt.Given as goal

abbrev pub ghost-tell_value : goal.ghost-tell_value
ghost-tell_value c = encode_slot
