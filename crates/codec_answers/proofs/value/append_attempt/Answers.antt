-- Both fingerprints are 32 long.
use Rattle.std.proofs.Common.{rules}
use Rattle.codec_answers.specs.Looks.{slot_most}
use Rattle.codec_answers.proofs.value.append_attempt.Goals as goal

pub returns : goal.returns
returns c = record { fits = c.append_slot.ensures; few = slot_most c.args.a (search rules) (search rules) }
