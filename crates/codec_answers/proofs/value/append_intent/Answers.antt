-- The size asked first bounds the form.
use Rattle.std.proofs.Common.{arith}
use Rattle.codec_answers.proofs.value.append_intent.Goals as goal

pub returns : goal.returns
returns c = record { fits = c.append_fee_intent.ensures; few = omega (arith, c.size_fee_intent.ensures.is, c.size_fee_intent.ensures.few) }
