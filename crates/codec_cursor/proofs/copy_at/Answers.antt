-- The part of the slice that is copied has the n bytes from the position on.
use Rattle.codec_forms.specs.Wire.{overlay}
use lib.ListN.{length-take, length-drop}
use native.Mathlib.Omega.{arith}
use mathlib.Core.Path.{◌≡◌, ap, ◌∙◌}
use Prim.Native.Nat.{ℕ, ◌+◌, ◌-◌}
use lib.ListN.{take, drop}
use Rattle.codec_cursor.proofs.copy_at.Goals as goal

pub put-requires : goal.put-requires
put-requires c = simp (length-take, length-drop) (omega arith)

pub returns : goal.returns
returns c =
    let q : c.args.at + c.args.n - c.args.at ≡ c.args.n = omega arith in
    c.put.ensures.bytes ∙ ap (λ (k : ℕ). overlay (take k (drop c.args.at c.args.s.now)) c.args.dst.now) q
