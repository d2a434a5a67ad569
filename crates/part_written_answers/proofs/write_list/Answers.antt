-- Too short a buffer is refused, else the count and the coins are put one behind the other.
use Rattle.book.specs.Model.{view}
use Rattle.part_written_answers.specs.Answers.{refused_is, list_short, coins_room, list_written}
use mathlib.Core.Path.{refl, ◌∙◌}
use Rattle.book.specs.declared.refusal.Refusal.TheVariants as refusals
use Rattle.part_written_answers.proofs.write_list.Goals as goal

pub returns-then-out-n : goal.returns-then-out-n
returns-then-out-n c = refused_is c.args.b.parts c.args.out.now refusals.ShortBuffer (list_short c.args.count c.args.coins.now c.args.out.now (view c.args.b.parts) c.if-out-n.true) c.refused.ensures

pub put_bytes-end-requires : goal.put_bytes-end-requires
put_bytes-end-requires c = coins_room c.args.count c.args.coins.now c.args.out.now (view c.args.b.parts) c.if-out-n.false c.put_count-at.ensures

pub returns : goal.returns
returns c =
    let w = list_written c.args.count c.args.coins.now c.args.out.now (view c.args.b.parts) c.if-out-n.false c.args.b.parts refl c.args.b.sound c.put_count-at.ensures c.put_bytes-end.ensures in
    (c.done.ensures ∙ w.0, w.1)
