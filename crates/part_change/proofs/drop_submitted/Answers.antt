use lib.ListN.{length-set}
use borrow.Author.Tests.{eq-eqb, ne_eqb}
use mathlib.Core.Bool.{not}
use borrow.Author.Rules.{rules}
use native.Mathlib.Omega.{arith}
use mathlib.Core.Path.{refl, sym, ap, ◌∙◌}
use Rattle.book.specs.Zero.{zero_submitted}
use Rattle.book.specs.Model.{view}
use Rattle.rules.specs.Keyed.{without}
use Rattle.part_ids.specs.Moving.{move_start, move_done, move_stay, skip_by, keep_by}
use Rattle.part_lookup.specs.Normal.{sizes, submitted_are}
use Rattle.part_change.specs.ChangeLaws.{same_cells, not_is, drop_is}
use Rattle.part_change.proofs.drop_submitted.Goals as goal

pub loop-i-init : goal.loop-i-init
loop-i-init c =
    let s = sizes c.args.b c.requires in
    let e = submitted_are c.args.b c.requires in
    (s.submitted, search rules, c.zero-z.ensures, s.submitted_long, e.count, refl, move_start 16 zero_submitted (not_is c.args.id.0) (view c.args.b).submitted e)

pub loop-i-preserved-then-eq : goal.loop-i-preserved-then-eq
loop-i-preserved-then-eq c = (
  c.loop-i.invariant.0,
  omega arith,
  c.loop-i.invariant.2,
  simp length-set c.loop-i.invariant.3,
  c.loop-i.invariant.4,
  same_cells c.args.b c.loop-i.out _ c.loop-i.invariant.5,
  skip_by 16 zero_submitted (not_is c.args.id.0) (view c.args.b).submitted c.loop-i.out.submitted c.loop-i.w
      c.loop-i.i c.loop-i.invariant.6 _ (omega arith) c.loop-i.invariant.2 (ap not (sym c.eq.ensures ∙ c.if-eq.true)),
)

pub loop-i-preserved-then-w-i : goal.loop-i-preserved-then-w-i
loop-i-preserved-then-w-i c = (
  c.loop-i.invariant.0,
  omega arith,
  c.loop-i.invariant.2,
  c.loop-i.invariant.3,
  c.loop-i.invariant.4,
  c.loop-i.invariant.5,
  move_stay 16 zero_submitted (not_is c.args.id.0) (view c.args.b).submitted c.loop-i.out.submitted
      c.loop-i.w c.loop-i.i c.loop-i.invariant.6 _ (omega arith) (omega arith)
      (ap not (sym c.eq.ensures ∙ c.if-eq.false)),
)

pub loop-i-preserved : goal.loop-i-preserved
loop-i-preserved c = (
  c.loop-i.invariant.0,
  omega arith,
  c.loop-i.invariant.2,
  simp length-set c.loop-i.invariant.3,
  c.loop-i.invariant.4,
  same_cells c.args.b c.loop-i.out _ c.loop-i.invariant.5,
  keep_by 16 zero_submitted (not_is c.args.id.0) (view c.args.b).submitted c.loop-i.out.submitted c.loop-i.w
      c.loop-i.i c.loop-i.invariant.6 _ (omega arith) c.loop-i.invariant.2 (ap not (sym c.eq.ensures ∙ c.if-eq.false)),
)

pub returns : goal.returns
unfolding without
returns c =
    same_cells c.args.b c.loop-i.out c.loop-i.out.submitted c.loop-i.invariant.5
    ∙ drop_is c.args.b c.requires c.args.id.0 c.loop-i.w c.loop-i.out.submitted
    (move_done 16 zero_submitted (not_is c.args.id.0) (view c.args.b).submitted c.loop-i.out.submitted c.loop-i.w c.loop-i.i c.loop-i.invariant.6 (omega arith) (omega (arith, c.loop-i.invariant.0)))
