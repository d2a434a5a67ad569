-- Parent, hash and atom pushed on the empty cell make the parts' cell (`parts_cell`), and 32 + 32 bytes leave the atom its room.
use Rattle.base_coin_string.specs.declared.CoinString.{CoinString}
use Rattle.base_coin_string.specs.Amount.{atom_of}
use Rattle.base_coin_string.specs.Coin.{from_parts_of}
use Rattle.base_coin_string.specs.Build.{pushes, pushes_len, parts_cell}
use native.Mathlib.Omega.{arith}
use mathlib.Core.Path.{◌≡◌, ap, ◌∙◌}
use lib.ListN.{length}
use borrow.Author.Rules.{rules}
use Rattle.base_coin_string.proofs.from_parts.Goals as goal

pub push_all-parented-requires : goal.push_all-parented-requires
push_all-parented-requires c = let e = ap (λ (o : CoinString). o.len) c.empty.ensures in let l : length c.args.parent ≡ 32 = search rules in omega (arith, e)

pub push_all-hashed-requires : goal.push_all-hashed-requires
push_all-hashed-requires c =
    let z = ap (λ (o : CoinString). o.len) c.empty.ensures in let e = ap (λ (o : CoinString). o.len) c.push_all-parented.ensures ∙ pushes_len c.empty.result
    c.args.parent in let l : length c.args.parent ≡ 32 = search rules in let m : length c.args.puzzle_hash ≡ 32 = search rules in omega (arith, e, z)

pub push_amount-requires : goal.push_amount-requires
push_amount-requires c =
    let push-all = c.push_all-parented in
    let z = ap (λ (o : CoinString). o.len) c.empty.ensures in let e = ap (λ (o : CoinString). o.len) push-all.ensures ∙ pushes_len c.empty.result c.args.parent in
    let f = ap (λ (o : CoinString). o.len) c.push_all-hashed.ensures ∙ pushes_len push-all.result c.args.puzzle_hash in
    let l : length c.args.parent ≡ 32 = search rules in let m : length c.args.puzzle_hash ≡ 32 = search rules in omega (arith, e, f, z)

pub returns : goal.returns
returns c =
    let p = c.args.parent in let h = c.args.puzzle_hash in let a = c.args.amount in
    let l : length p ≡ 32 = search rules in let m : length h ≡ 32 = search rules in
    from_parts_of p h a l m (c.push_amount.ensures ∙ ap (λ (o : CoinString). pushes o (atom_of a))
    (c.push_all-hashed.ensures ∙ ap (λ (o : CoinString). pushes o h) (c.push_all-parented.ensures ∙ ap (λ (o : CoinString). pushes o p) c.empty.ensures)) ∙
    parts_cell p h a l m)
