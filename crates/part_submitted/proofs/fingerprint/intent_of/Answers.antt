-- The promise of `intent_fingerprint` for the intent's three fields is the definition of `intent_of`.
use Rattle.rules.specs.Parts.{intent_of}
use Rattle.part_submitted.proofs.fingerprint.intent_of.Goals as goal

pub returns : goal.returns
unfolding intent_of
returns c = c.intent_fingerprint.ensures
