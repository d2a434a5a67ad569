-- The bytes stored in one go are those pushed one by one (`pushes_is`).
use Rattle.base_coin_string.specs.Build.{pushes_is}
use mathlib.Core.Path.{◌≡◌}
use Prim.Native.Nat.{◌+◌, ◌-◌}
use native.Mathlib.Omega.{arith}
use lib.ListN.{length}
use borrow.Author.Rules.{rules}
use Rattle.base_coin_string.proofs.push_all.Goals as goal

pub returns : goal.returns
returns c =
    let h : length c.args.c.bytes ≡ 73 = search rules in
    let n = length c.args.s.now in
    let e : c.args.c.len + n - c.args.c.len ≡ n = omega arith in
    rw (c.copy_from_slice.ensures.after, c.from-at.ensures, e) (pushes_is c.args.c c.args.s.now (omega arith))
