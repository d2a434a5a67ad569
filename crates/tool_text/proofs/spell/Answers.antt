use Rattle.tool_text.proofs.Decimal.{spelt_start, spelt_next, spelt_last}
use lib.ListN.{length-set}
use borrow.Author.Rules.{rules}
use native.Mathlib.Omega.{arith}
use Rattle.tool_text.proofs.spell.Goals as goal

pub loop-rest-init : goal.loop-rest-init
loop-rest-init c = spelt_start c.args.n c.args.a.now (search rules) c.requires

pub loop-rest-preserved : goal.loop-rest-preserved
loop-rest-preserved c = spelt_next c.args.n c.loop-rest.i c.loop-rest.rest c.loop-rest.a c.loop-rest-test.true c.loop-rest.invariant

pub returns : goal.returns
returns c = (
  omega (arith, c.loop-rest.invariant.most),
  simp length-set c.loop-rest.invariant.long,
  spelt_last c.args.n c.loop-rest.i c.loop-rest.rest c.loop-rest.a
      c.loop-rest-test.false c.loop-rest.invariant,
)
