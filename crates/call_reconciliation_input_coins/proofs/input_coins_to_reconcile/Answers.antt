use Rattle.base_lists.specs.Laws.{rest_step}
use Rattle.base_coin_string.specs.CoinList.{coins_in}
use Rattle.book.specs.Model.{view}
use Rattle.part_lookup.specs.Normal.{sound_normal}
use Rattle.call_reconciliation_input_coins.specs.Inputs.{gathering_start, gathering_turn, gathering_done, to_reconcile}
use native.Mathlib.Omega.{arith}
use mathlib.Core.Path.{ap, ◌∙◌}
use lib.ListN.{length, drop_of_length-le}
use Rattle.call_reconciliation_input_coins.proofs.input_coins_to_reconcile.Invariants.{all_of}
use Rattle.call_reconciliation_input_coins.proofs.input_coins_to_reconcile.Goals as goal

pub submitted-retained-requires : goal.submitted-retained-requires
submitted-retained-requires c = sound_normal c.args.b.now.parts c.args.b.now.sound

pub loop-t-init : goal.loop-t-init
loop-t-init c =
    let s = (sound_normal c.args.b.now.parts c.args.b.now.sound).fits.submitted in
    let e = ap length c.submitted-retained.ensures in
    (omega arith, omega (arith, c.empty-acc.ensures.count), gathering_start (coins_in c.args.outputs.now) _ c.empty-acc.ensures.none)

pub loop-t-preserved : goal.loop-t-preserved
loop-t-preserved c = (
  c.loop-t.invariant.0,
  omega (arith, c.loop-t.invariant.1, c.gather_inputs-acc.ensures.few),
  gathering_turn c.loop-t.invariant.2 (rest_step _ c.loop-t.t-index _ c.loop-t-test.true) c.gather_inputs-acc.ensures,
)

pub returns : goal.returns
returns c =
    record {
      is = gathering_done c.loop-t.invariant.2 (drop_of_length-le _ c.loop-t-test.false)
          ∙ ap (all_of (coins_in c.args.outputs.now)) c.submitted-retained.ensures ∙ to_reconcile (coins_in c.args.outputs.now) (view c.args.b.now.parts);
      few = omega (arith, c.loop-t.invariant.1, c.loop-t.invariant.0, c.loop-t-test.false);
    }
