-- Bytes pushed on the empty cell make the cell of those bytes (`pushes_cell`).
use Rattle.base_coin_string.specs.Build.{pushes, pushes_cell}
use Rattle.std.proofs.lemmas.List.{length-take, take_min}
use native.Mathlib.Omega.{arith}
use mathlib.Core.Path.{◌≡◌, ap, ◌∙◌}
use mathlib.Core.List.{[]}
use lib.ListN.{length, take}
use Prim.Native.Nat.{ℕ, min}
use Rattle.base_coin_string.proofs.from_bytes.Goals as goal

pub returns : goal.returns
returns c =
    let s = c.args.s.now in
    let n : c.min-n.result ≡ min 73 (length s) = omega (arith, c.min-n.ensures) in
    let t : take c.min-n.result s ≡ take 73 s = ap (λ (k : ℕ). take k s) n ∙ take_min 73 s in
    c.push_all.ensures ∙ (λ j. pushes (c.empty.ensures j) (t j)) ∙ pushes_cell [] (take 73 s) (omega (arith, length-take 73 s))
