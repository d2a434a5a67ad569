use Rattle.codec_answers.specs.Looks.{height_most}
use Rattle.codec_answers.proofs.value.append_rollback_height.Goals as goal

pub returns : goal.returns
returns c = record { fits = c.append_height.ensures; few = height_most c.args.h.now }
