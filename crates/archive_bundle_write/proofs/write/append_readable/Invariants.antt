use Rattle.archive_bundle_form.specs.Forms.{encode_output}
use Rattle.archive_bundle_write.proofs.write.append_readable.Given as goal

abbrev pub ghost-append_list : goal.ghost-append_list
ghost-append_list a = encode_output
