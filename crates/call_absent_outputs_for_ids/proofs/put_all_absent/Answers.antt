use Rattle.base_lists.specs.Laws.{rest_step}
use Rattle.part_lookup.specs.Normal.{sound_normal}
use Rattle.base_coin_string.specs.CoinList.{coins_in}
use Rattle.call_absent_outputs_for_ids.specs.Outputs.{collecting_start, collecting_turn, collecting_done, short_of}
use native.Mathlib.Omega.{arith}
use mathlib.Core.Path.{ap}
use lib.ListN.{length, drop_of_length-le}
use Rattle.call_absent_outputs_for_ids.proofs.put_all_absent.Goals as goal

pub submitted-retained-requires : goal.submitted-retained-requires
submitted-retained-requires c = sound_normal c.args.b.now.parts c.args.b.now.sound

pub loop-t-init : goal.loop-t-init
loop-t-init c =
    let s = (sound_normal c.args.b.now.parts c.args.b.now.sound).fits.submitted in
    let e = ap length c.submitted-retained.ensures in
    (omega arith, omega arith, omega arith, collecting_start c.args.ids.now (coins_in c.args.absent.now) _ c.args.out.now)

pub loop-t-preserved : goal.loop-t-preserved
loop-t-preserved c = (
  c.loop-t.invariant.0,
  omega (arith, c.loop-t.invariant.1, short_of c.put_absent-p.ensures),
  omega (arith, c.loop-t.invariant.2, c.put_absent-p.ensures.few),
  collecting_turn c.loop-t.invariant.3 (rest_step _ c.loop-t.t-index _ c.loop-t-test.true) c.put_absent-p.ensures
      (omega (arith, c.loop-t.invariant.1, c.loop-t.invariant.0, c.loop-t-test.true, c.requires.in_bounds, short_of c.put_absent-p.ensures)),
)

pub returns : goal.returns
returns c =
    record {
      listed = rw (← c.submitted-retained.ensures) (collecting_done c.loop-t.invariant.3 (drop_of_length-le _ c.loop-t-test.false));
      few = omega (arith, c.loop-t.invariant.2, c.loop-t.invariant.0, c.loop-t-test.false);
    }
