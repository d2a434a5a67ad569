-- Each arm of the match is one clause of `consistent_fee`.
use Rattle.part_submitted.proofs.fingerprint.consistent.Goals as goal

pub returns-in-Unresolved : goal.returns-in-Unresolved
returns-in-Unresolved c = rw c.in-Unresolved.is
