use native.Mathlib.Omega.{arith}
use mathlib.Core.Path.{refl, ◌∙◌}
use lib.ListN.{length-set}
use Rattle.part_lookup.specs.Normal.{sound_normal, sizes}
use Rattle.call_restore_runtime.specs.RestoreLaws.{restore_start, restore_turn, restore_end}
use Rattle.call_restore_runtime.proofs.restore_runtime_sound.Goals as goal

pub loop-i-init : goal.loop-i-init
loop-i-init c =
    let s = sizes c.args.b.parts (sound_normal c.args.b.parts c.args.b.sound) in
    (s.submitted, s.submitted_long, refl, restore_start c.args.b.parts c.args.b.sound)

pub loop-i-preserved : goal.loop-i-preserved
loop-i-preserved c =
    (c.loop-i.invariant.0, simp length-set c.loop-i.invariant.1, c.loop-i.invariant.2, restore_turn c.loop-i.invariant.3 _ (omega (arith, c.loop-i.invariant.2)) c.set_aside-next.ensures)

pub returns : goal.returns
returns c = c.done.ensures ∙ restore_end c.loop-i.invariant.3 (omega (arith, c.loop-i.invariant.2, c.loop-i-test.false))
