use lib.ListN.{length-set, length, take}
use lib.Seq.{length-take-le}
use mathlib.Core.Bool.{not}
use borrow.Author.Rules.{rules}
use native.Mathlib.Omega.{arith}
use mathlib.Core.Path.{◌≡◌, sym, ap, ◌∙◌}
use Rattle.book.specs.Zero.{zero_delivery}
use Rattle.rules.specs.Steps.Notes.{unqueued}
use Rattle.part_ids.specs.Moving.{move_start, move_done, move_stay, skip_by, keep_by}
use Rattle.part_change.specs.ChangeLaws.{not_for}
use Rattle.part_change.proofs.keep_others.Goals as goal

pub loop-i-init : goal.loop-i-init
loop-i-init c =
    let l : length c.args.a ≡ 16 = search rules in
    (c.requires.0, search rules, c.zero-z.ensures, l, sym (length-take-le c.args.n c.args.a (omega arith)), move_start 16 zero_delivery (not_for c.args.id.0) (take c.args.n c.args.a) c.requires.1)

pub loop-i-preserved-then-is_id : goal.loop-i-preserved-then-is_id
loop-i-preserved-then-is_id c = (
  c.loop-i.invariant.0,
  omega arith,
  c.loop-i.invariant.2,
  simp length-set c.loop-i.invariant.3,
  c.loop-i.invariant.4,
  skip_by 16 zero_delivery (not_for c.args.id.0) (take c.args.n c.args.a) c.loop-i.out c.loop-i.w
      c.loop-i.i c.loop-i.invariant.5 _ (omega arith) c.loop-i.invariant.2 (ap not (sym c.is_id.ensures ∙ c.if-is_id.true)),
)

pub loop-i-preserved-then-w-i : goal.loop-i-preserved-then-w-i
loop-i-preserved-then-w-i c = (
  c.loop-i.invariant.0,
  omega arith,
  c.loop-i.invariant.2,
  c.loop-i.invariant.3,
  c.loop-i.invariant.4,
  move_stay 16 zero_delivery (not_for c.args.id.0) (take c.args.n c.args.a) c.loop-i.out c.loop-i.w
      c.loop-i.i c.loop-i.invariant.5 _ (omega arith) (omega arith) (ap not (sym c.is_id.ensures ∙ c.if-is_id.false)),
)

pub loop-i-preserved : goal.loop-i-preserved
loop-i-preserved c = (
  c.loop-i.invariant.0,
  omega arith,
  c.loop-i.invariant.2,
  simp length-set c.loop-i.invariant.3,
  c.loop-i.invariant.4,
  keep_by 16 zero_delivery (not_for c.args.id.0) (take c.args.n c.args.a) c.loop-i.out c.loop-i.w
      c.loop-i.i c.loop-i.invariant.5 _ (omega arith) c.loop-i.invariant.2 (ap not (sym c.is_id.ensures ∙ c.if-is_id.false)),
)

pub returns : goal.returns
unfolding unqueued
returns c = move_done 16 zero_delivery (not_for c.args.id.0) (take c.args.n c.args.a) c.loop-i.out c.loop-i.w c.loop-i.i c.loop-i.invariant.5 (omega arith) (omega (arith, c.loop-i.invariant.0))
