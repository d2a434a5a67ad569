use Rattle.archive_bundle_form.specs.Forms.{encode_spend}
use Rattle.archive_bundle_size.proofs.size_bundle.Given as goal

abbrev pub ghost-size_first : goal.ghost-size_first
ghost-size_first a = (encode_spend, 268)
