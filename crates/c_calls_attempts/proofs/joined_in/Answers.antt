-- By the source: no bytes, or the whole of them a bundle.
use Rattle.c_calls_attempts.specs.Source.{joined_none, joined_read}
use Rattle.c_calls_attempts.proofs.joined_in.Goals as goal

pub returns-then-source-ne1 : goal.returns-then-source-ne1
returns-then-source-ne1 c = joined_none c.args.source c.args.joined.now c.if-source-ne1.true c.zero.ensures c.then_some.ensures

pub returns : goal.returns
returns c = joined_read c.args.source c.args.joined.now c.if-source-ne1.false c.read_bundle-bundle.ensures c.then_some-2.ensures
