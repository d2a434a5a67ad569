-- More than 64 ids are refusal 2, else marks and offers are the rules' two rounds (`collect_taken`), of at most 16 ids each.
use Rattle.std.proofs.Common.{sym, ap, ◌∙◌, arith}
use Rattle.part_ids.specs.IdLaws.{count_is, list_is}
use Rattle.book.specs.Model.{view, id_list}
use Rattle.part_ids.specs.Ids.{without_ids}
use Rattle.part_replies.specs.Reply.{reply}
use Rattle.call_collect_rollback_replay_ids.specs.Collecting.{named_in, named_fit, fresh_fit, collect_long, collect_taken}
use Rattle.call_collect_rollback_replay_ids.proofs.collect_rollback_replay_ids_sound.Goals as goal

pub returns-then-ids-gt64 : goal.returns-then-ids-gt64
returns-then-ids-gt64 c = c.refused.ensures ∙ ap (reply c.args.b.parts) (sym (collect_long c.args.ids.now (view c.args.b.parts) c.if-ids-gt64.true))

pub unmarked-fresh-requires : goal.unmarked-fresh-requires
unmarked-fresh-requires c = count_is (named_in c.args.ids.now (view c.args.b.parts)) c.named_ids-named.ensures (named_fit c.args.b.parts c.args.b.sound c.args.ids.now)

pub items-requires : goal.items-requires
items-requires c = (omega arith, count_is (without_ids (view c.args.b.parts).replayed (id_list c.named_ids-named.result)) c.unmarked-fresh.ensures (fresh_fit c.args.b.parts c.args.b.sound c.args.ids.now c.named_ids-named.ensures))

pub items-requires-2 : goal.items-requires-2
items-requires-2 c = (omega arith, count_is (named_in c.args.ids.now (view c.args.b.parts)) c.named_ids-named.ensures (named_fit c.args.b.parts c.args.b.sound c.args.ids.now))

pub returns : goal.returns
returns c =
    let m = view c.args.b.parts in
    let named = list_is (named_in c.args.ids.now m) c.named_ids-named.ensures in
    let fresh = list_is (without_ids m.replayed (id_list c.named_ids-named.result)) c.unmarked-fresh.ensures in
    c.settled.ensures
    ∙ ap (reply c.args.b.parts) (sym (collect_taken c.args.ids.now m c.if-ids-gt64.false c.offer_again.ensures (c.items-2.ensures ∙ named)
    (c.items.ensures ∙ fresh ∙ ap (without_ids m.replayed) (sym c.items-2.ensures)) c.mark_each-marked.ensures))
