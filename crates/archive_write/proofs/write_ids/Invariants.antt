use Rattle.codec_forms.specs.Wire.{be}
use Rattle.archive_write.proofs.write_ids.Given as goal

abbrev pub ghost-append_list : goal.ghost-append_list
ghost-append_list a = be 8
