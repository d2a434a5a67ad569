use Rattle.archive_form.specs.Encode.{encode_submitted, encode_delivery}
use Rattle.archive_write.proofs.write_front.Given as goal

abbrev pub ghost-append_list : goal.ghost-append_list
ghost-append_list a = encode_submitted

abbrev pub ghost-append_list-2 : goal.ghost-append_list-2
ghost-append_list-2 a = encode_delivery
