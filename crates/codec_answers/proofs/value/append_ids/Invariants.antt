use Rattle.codec_forms.specs.Wire.{be}
use Rattle.codec_answers.proofs.value.append_ids.Given as goal

abbrev pub ghost-append_each : goal.ghost-append_each
ghost-append_each a = be 8
