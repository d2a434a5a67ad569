-- The tests of the lists decide between refusal 2 and the run over all submissions, as in the rules.
use borrow.Author.Tests.{not-true, not-false}
use Rattle.book.specs.Model.{view}
use Rattle.part_replies.specs.Reply.{reply}
use Rattle.call_reconcile_chain_terminality.specs.Judge.{lists_told, reconcile_open, reconcile_shut}
use mathlib.Core.Path.{sym, ap, ◌∙◌}
use Rattle.call_reconcile_chain_terminality.proofs.reconcile_chain_terminality_sound.Goals as goal

pub returns-then-not-ok : goal.returns-then-not-ok
returns-then-not-ok c =
    c.refused.ensures
    ∙ ap (reply c.args.b.parts) (reconcile_shut c.args.observed.now c.args.spent.now c.args.reorg c.args.rolled_back.now (view c.args.b.parts)
    (lists_told c.args.observed.now c.args.spent.now c.args.reorg c.args.rolled_back.now (view c.args.b.parts) c.is_coin_list-coins.ensures c.is_id_list-ids.ensures (not-true _ c.if-not-ok.true-raw)))

pub returns : goal.returns
returns c =
    c.settled.ensures
    ∙ ap (reply c.args.b.parts) (sym c.judge_each-left.ensures
    ∙ reconcile_open c.args.observed.now c.args.spent.now c.args.reorg c.args.rolled_back.now (view c.args.b.parts)
    (lists_told c.args.observed.now c.args.spent.now c.args.reorg c.args.rolled_back.now (view c.args.b.parts) c.is_coin_list-coins.ensures c.is_id_list-ids.ensures (not-false _ c.if-not-ok.false-raw)))
