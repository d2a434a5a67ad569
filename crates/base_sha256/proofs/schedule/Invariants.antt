-- The loop keeps: the first `t` words are the schedule up to `t`; each turn adds a word made of those before.
use mathlib.Core.Path.{◌≡◌}
use lib.ListN.{length, take}
use Rattle.base_sha256.specs.Fips.{schedule}
use Rattle.base_sha256.proofs.schedule.Given as goal

abbrev pub invariant-loop-t : goal.invariant-loop-t
invariant-loop-t l = (length l.w ≡ 64) × (take l.t l.w ≡ schedule l.b l.t)
