-- The eight bytes from `at` on, read as std reads them (`number_is`).
use mathlib.Core.Path.{◌≡◌, ap, ◌∙◌}
use Prim.Native.Nat.{ℕ, ◌+◌, ◌-◌}
use native.Mathlib.Omega.{arith}
use borrow.Author.Rules.{rules}
use lib.ListN.{take, drop}
use Rattle.codec_cursor.proofs.Bytes.{number_is, part_bytes}
use Rattle.codec_cursor.proofs.number_at.Goals as goal

pub returns : goal.returns
returns c =
    let d = drop c.args.at c.args.s.now in
    let e : c.args.at + 8 - c.args.at ≡ 8 = omega arith in
    let w : c.copy_from_slice.new.self ≡ take 8 d = c.copy_from_slice.ensures.after ∙ ap (λ (n : ℕ). take n d) e in
    rw w at (number_is c.from_be_bytes.result c.copy_from_slice.new.self c.copy_from_slice.ensures.len (rw w (part_bytes c.args.s.now c.args.at 8 (λ i. search (rules, c.type_inv.s i)))) c.from_be_bytes.type_inv c.from_be_bytes.ensures)
