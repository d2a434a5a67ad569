use Rattle.archive_bundle_form.specs.Forms.{encode_spend}
use Rattle.archive_bundle_write.proofs.write.append_bundle.Given as goal

abbrev pub ghost-append_each : goal.ghost-append_each
ghost-append_each a = encode_spend
