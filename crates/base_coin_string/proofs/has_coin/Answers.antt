use mathlib.Core.Path.{◌≡◌, sym, ◌∙◌}
use Prim.Native.Nat.{◌+◌, ◌-◌}
use native.Mathlib.Omega.{arith}
use lib.ListN.{take}
use Rattle.base_lists.specs.Bytes.{in_hit, in_turn, in_done}
use Rattle.base_coin_string.specs.CoinListLaws.{whole, broken}
use Rattle.base_coin_string.proofs.has_coin.Goals as goal

pub returns-in_default : goal.returns-in_default
returns-in_default c =
    in_done (take c.args.len c.args.coin) ((broken c.args.s.now c.loop-i.at c.in_default.ensures).coins (c.list_count-count.result - c.loop-i._i)) c.loop-i.invariant

pub returns-then-coin_is : goal.returns-then-coin_is
returns-then-coin_is c =
    let w = whole c.args.s.now c.loop-i.at c.in-Some.to c.in-Some.ensures in
    in_hit (take c.args.len c.args.coin) (w.coins (c.list_count-count.result - c.loop-i._i) (omega arith)) (sym c.if-coin_is.true ∙ c.coin_is.ensures) c.loop-i.invariant

pub loop-i-preserved : goal.loop-i-preserved
loop-i-preserved c =
    let w = whole c.args.s.now c.loop-i.at c.in-Some.to c.in-Some.ensures in
    let n = c.list_count-count.result in
    let e : n - (c.loop-i._i + 1) ≡ n - c.loop-i._i - 1 = omega arith in
    rw e (in_turn (take c.args.len c.args.coin) (w.coins (n - c.loop-i._i) (omega arith)) (sym c.if-coin_is.false ∙ c.coin_is.ensures) c.loop-i.invariant)
