-- A coin is compared with the one made of what it was taken apart into.
use Rattle.tool_bundle_text.specs.Coins.{coin_short, coin_is, read_is}
use native.Mathlib.Omega.{arith}
use mathlib.Core.Path.{◌≡◌, ◌∙◌}
use Prim.Native.Nat.{◌≤◌}
use lib.ListN.{length, take}
use Rattle.base_lists.specs.Bytes.{eqs}
use borrow.Author.Rules.{rules}
use Rattle.tool_bundle_text.proofs.coin.is_coin.Goals as goal

pub returns-then-c-lt64 : goal.returns-then-c-lt64
returns-then-c-lt64 c = coin_short c.args.c.now c.if-c-lt64.true

pub returns : goal.returns
returns c =
    let l : 64 ≤ length c.args.c.now = c.if-c-lt64.false in
    let p = read_is c.args.c.now 0 c.read_hash-parent_hash.ensures (omega arith) (omega arith) in
    let q = read_is c.args.c.now 32 c.read_hash-puzzle_hash.ensures (omega arith) (omega arith) in
    let e : c.eq.result ≡ eqs c.args.c.now (take c.from_parts-made.result.len c.from_parts-made.result.bytes) = search rules in
    e ∙ coin_is c.args.c.now c.from_parts-made.ensures l p q c.amount-v.ensures
