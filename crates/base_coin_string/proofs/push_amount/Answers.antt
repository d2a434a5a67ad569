-- The last `atom_len` of the nine bytes are the amount's atom (`nine_part`), which has at most nine (`length_le`).
use Rattle.base_coin_string.specs.AmountLaws.{length_le, nine_part}
use Rattle.base_coin_string.specs.Build.{pushes}
use native.Mathlib.Omega.{arith}
use mathlib.Core.Path.{ap, ◌∙◌}
use Prim.Native.Nat.{ℕ, ◌-◌}
use Rattle.base_coin_string.proofs.push_amount.Goals as goal

pub overflow_sub-z : goal.overflow_sub-z
overflow_sub-z c = omega (arith, c.atom_len-z.ensures, length_le c.args.amount)

pub slice_bounds-push_all-count : goal.slice_bounds-push_all-count
slice_bounds-push_all-count c = omega (arith, c.atom_len-z.ensures, length_le c.args.amount)

pub slice_bounds-push_all-start : goal.slice_bounds-push_all-start
slice_bounds-push_all-start c = omega (arith, c.atom_len-z.ensures, length_le c.args.amount)

pub returns : goal.returns
returns c =
    let nine-bytes = c.nine_bytes-b in
    let atom-len = c.atom_len-z in
    c.push_all.ensures ∙ ap (pushes c.args.c) (nine_part c.args.amount (9 - atom-len.result) nine-bytes.result nine-bytes.ensures (ap (λ (k : ℕ). 9 - k) atom-len.ensures))
