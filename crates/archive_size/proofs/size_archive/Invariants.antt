use Rattle.archive_form.specs.Encode.{encode_submitted, encode_delivery}
use Rattle.archive_size.proofs.size_archive.Given as goal

abbrev pub ghost-size_first : goal.ghost-size_first
ghost-size_first a = (encode_submitted, 2430)

abbrev pub ghost-size_first-2 : goal.ghost-size_first-2
ghost-size_first-2 a = (encode_delivery, 1134)
