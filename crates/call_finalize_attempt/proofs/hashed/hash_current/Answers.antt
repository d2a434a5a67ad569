-- The fingerprint is the callee's answer.
use Rattle.call_finalize_attempt.proofs.hashed.hash_current.Goals as goal

pub invariant_of-result : goal.invariant_of-result
invariant_of-result c = record { current = c.current_variant_fingerprint.ensures }
