-- The loop keeps: the state is that after `i` times eight rounds.
use mathlib.Core.Path.{◌≡◌}
use Prim.Native.Nat.{◌*◌}
use Rattle.base_sha256.specs.Fips.{K, rounds}
use Rattle.base_sha256.specs.Code.{words_of}
use Rattle.base_sha256.proofs.rounds.Given as goal

abbrev pub invariant-loop-i : goal.invariant-loop-i
invariant-loop-i l = words_of l.s ≡ rounds K l.w (words_of l.initial.s) (l.i * 8)
