use Rattle.tool_bundle_text.specs.Bundles.{spend_text}
use Rattle.tool_text.specs.Each.{nth_start, nth_more}
use Rattle.tool_bundle_text.proofs.bundle.append_spends.Goals as goal

pub loop-i-init : goal.loop-i-init
loop-i-init c = nth_start spend_text c.args.a.now c.args.at c.args.out.now

pub loop-i-preserved : goal.loop-i-preserved
loop-i-preserved c = nth_more _ spend_text _ c.loop-i.i c.loop-i-test.true c.loop-i.invariant c.append_spend-e.ensures
