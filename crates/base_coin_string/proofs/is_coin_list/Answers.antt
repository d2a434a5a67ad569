use mathlib.Core.Path.{◌≡◌, sym, ◌∙◌}
use Prim.Native.Nat.{◌+◌, ◌-◌}
use native.Mathlib.Omega.{arith}
use lib.ListN.{drop}
use Rattle.base_coin_string.specs.CoinListLaws.{whole, broken, used_end, used_zero}
use Rattle.base_coin_string.proofs.is_coin_list.Goals as goal

pub returns-in_default : goal.returns-in_default
returns-in_default c =
    sym (c.loop-i.invariant.1 ∙ (broken c.args.s.now c.loop-i.at c.in_default.ensures).used (c.list_count-count.result - c.loop-i._i) (omega arith))

pub loop-i-preserved : goal.loop-i-preserved
loop-i-preserved c =
    let w = whole c.args.s.now c.loop-i.at c.in-Some.to c.in-Some.ensures in
    let n = c.list_count-count.result in
    let e : n - (c.loop-i._i + 1) ≡ n - c.loop-i._i - 1 = omega arith in
    (w.end, rw e (c.loop-i.invariant.1 ∙ w.used (n - c.loop-i._i) (omega arith)))

pub returns : goal.returns
returns c =
    sym
    (c.loop-i.invariant.1
    ∙ used_zero (drop c.loop-i.at c.args.s.now) (c.list_count-count.result - c.loop-i._i) (omega arith)
    ∙ used_end c.args.s.now c.loop-i.at c.loop-i.invariant.0)
