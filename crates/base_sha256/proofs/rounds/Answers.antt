use mathlib.Core.Path.{◌≡◌, refl}
use Prim.Native.Nat.{◌+◌, ◌*◌}
use native.Mathlib.Omega.{arith}
use Rattle.base_sha256.specs.Fips.{rounds}
use Rattle.base_sha256.proofs.Laws.{rounds_eight}
use Rattle.base_sha256.proofs.rounds.Goals as goal

pub loop-i-init : goal.loop-i-init
unfolding rounds
loop-i-init c = refl

pub loop-i-preserved : goal.loop-i-preserved
loop-i-preserved c =
    let e : (c.loop-i.i + 1) * 8 ≡ c.loop-i.i * 8 + 8 = omega arith in
    rw (c.eight_rounds-s.ensures, e, rounds_eight, c.loop-i.invariant)
