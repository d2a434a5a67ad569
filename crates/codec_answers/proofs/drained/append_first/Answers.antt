use Rattle.std.proofs.Common.{arith, rules, ap, ◌∙◌, ◌≡◌, ◌≤◌, length, min, take, length-take}
use Rattle.std.proofs.Math.Nat.{mul-le-mul_right}
use Rattle.std.proofs.Math.Seq.{take-length}
use Rattle.base_lists.specs.Laws.{take_cut}
use Rattle.codec_forms.specs.Wire.{enc_many}
use Rattle.codec_append.specs.Fits.{FitsWithin, within_start, within_more, within_join, within_byte, within_as}
use Rattle.codec_answers.proofs.drained.append_first.Goals as goal

pub loop-x-init : goal.loop-x-init
loop-x-init g c = within_start g.form.1 g.form.0 (take c.min-k.result c.args.parts.now) _ _

-- `c.requires.1.1.1.1` is the clause `appends`
pub loop-x-preserved : goal.loop-x-preserved
loop-x-preserved g c =
    let f : FitsWithin g.form.1 (g.form.0 c.x-item.result) c.loop-x.e c.loop-x.out c.append-e.new.arg2 c.append-e.result = c.requires.1.1.1.1 _ _ _ _ _ c.append-e.ensures in
    within_more g.form.1 c.x-item.result g.form.0 _ c.loop-x.x-index (omega arith) c.loop-x.invariant (rw c.x-item.is at f)

pub returns : goal.returns
returns g c =
    let first = take c.min-k.result c.args.parts.now in
    let l : length c.args.parts.now ≡ 16 = search rules in
    let m : c.loop-x.x-index ≤ 16 = omega (arith, length-take c.min-k.result c.args.parts.now) in
    let i : c.loop-x.x-index ≡ length first = omega arith in
    let f = c.loop-x.invariant in
    let p = mul-le-mul_right g.form.1 m in
    let q = ap (λ n. enc_many g.form.0 (take n first)) i ∙ ap (enc_many g.form.0) (take-length first ∙ take_cut 16 c.args.n c.min-k.result c.args.parts.now l c.min-k.ensures) in
    within_join (within_byte {k = min c.args.n 16} c.min-k.ensures c.append_byte-e.ensures) (within_as q (record { fits = f.fits; few = omega (arith, f.few) }))
