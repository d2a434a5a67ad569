use Rattle.std.proofs.Common.{arith, rules, ap, ◌∙◌, length, take, ◌≡◌, ◌+◌, ◌*◌, ◌≤◌, length-take}
use Rattle.std.proofs.Math.Nat.{mul-le-mul_right}
use Rattle.std.proofs.Math.Seq.{take-length}
use Rattle.base_lists.specs.Laws.{take_cut}
use Rattle.codec_forms.specs.Wire.{enc_many}
use Rattle.codec_forms.specs.Puts.{Size, size_as, sizing_start, sizing_more, sizing_done}
use Rattle.archive_bundle_size.proofs.size_first.Goals as goal

pub loop-x-init : goal.loop-x-init
loop-x-init g c = sizing_start g.form.0 (take c.min-k.result c.args.parts.now) g.form.1 (length (take c.min-k.result c.args.parts.now))

-- the parts so far and this one are no longer than all of them
pub overflow_add-sum : goal.overflow_add-sum
overflow_add-sum g c =
    let i : c.loop-x.x-index + 1 ≤ g.row.N = omega (arith, length-take c.min-k.result c.args.parts.now) in
    let p : (c.loop-x.x-index + 1) * g.form.1 ≤ g.row.N * g.form.1 = mul-le-mul_right g.form.1 i in
    let s : Size (g.form.0 c.x-item.result) g.form.1 c.size-sum.result = c.requires.1.1.1.1.1.1 _ _ c.size-sum.ensures in
    omega (arith, c.loop-x.invariant.sum.few, s.few)

pub loop-x-preserved : goal.loop-x-preserved
loop-x-preserved g c =
    let s : Size (g.form.0 c.x-item.result) g.form.1 c.size-sum.result = c.requires.1.1.1.1.1.1 _ _ c.size-sum.ensures in
    sizing_more c.x-item.result g.form.0 _ g.form.1 _ c.loop-x.sum c.loop-x.x-index c.size-sum.result c.loop-x.invariant (omega arith) (omega arith) (rw c.x-item.is at s)

pub returns : goal.returns
returns g c =
    let first = take c.min-k.result c.args.parts.now in
    let l : length c.args.parts.now ≡ g.row.N = search rules in
    let m : length first ≤ g.row.N = omega (arith, length-take c.min-k.result c.args.parts.now) in
    let s = sizing_done g.form.0 first g.form.1 (length first) c.loop-x.sum c.loop-x.x-index c.loop-x.invariant c.loop-x-test.false in
    let q = ap (enc_many g.form.0) (take-length first ∙ take_cut g.row.N c.args.n c.min-k.result c.args.parts.now l c.min-k.ensures) in
    let p = mul-le-mul_right g.form.1 m in
    size_as q (record { is = s.is; few = omega (arith, s.few) })
