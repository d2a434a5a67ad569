-- One law of specs/Report for each way out, in the order of the checks.
use borrow.Author.Tests.{not-true, not-false}
use Rattle.c_calls_chain.specs.Report.{lists_are, report_absent, report_unlisted, report_bad, report_done}
use Rattle.c_calls_chain.proofs.reconcile_chain_terminality.Goals as goal

pub returns-then-not-h : goal.returns-then-not-h
returns-then-not-h c = report_absent c.args.book.now c.args.observed.now c.args.spent.now c.args.reorg c.args.rolled_back.now (c.held-h.ensures.absent (not-true _ c.if-not-h.true))

pub returns-then-not-lists : goal.returns-then-not-lists
returns-then-not-lists c =
    report_unlisted _ c.args.observed.now c.args.spent.now c.args.reorg c.args.rolled_back.now _ (c.held-h.ensures.present (not-false _ c.if-not-h.false))
    (lists_are c.args.observed.now c.args.spent.now c.args.rolled_back.now c.is_coin_list-coins.ensures c.is_id_list-ids.ensures (not-true _ c.if-not-lists.true-raw))

pub returns-then-reorg-gt1 : goal.returns-then-reorg-gt1
returns-then-reorg-gt1 c =
    report_bad _ c.args.observed.now c.args.spent.now c.args.reorg c.args.rolled_back.now _ (c.held-h.ensures.present (not-false _ c.if-not-h.false))
    (lists_are c.args.observed.now c.args.spent.now c.args.rolled_back.now c.is_coin_list-coins.ensures c.is_id_list-ids.ensures (not-false _ c.if-not-lists.false-raw))
    c.if-reorg-gt1.true

pub invariant_of-reconcile_chain_terminality_sound : goal.invariant_of-reconcile_chain_terminality_sound
invariant_of-reconcile_chain_terminality_sound c = record { sound = (c.held-h.ensures.present (not-false _ c.if-not-h.false)).sound }

pub returns : goal.returns
returns c =
    report_done _ c.args.observed.now c.args.spent.now c.args.reorg c.args.rolled_back.now _ (c.held-h.ensures.present (not-false _ c.if-not-h.false)) _
    (lists_are c.args.observed.now c.args.spent.now c.args.rolled_back.now c.is_coin_list-coins.ensures c.is_id_list-ids.ensures (not-false _ c.if-not-lists.false-raw)) c.if-reorg-gt1.false
    c.reconcile_chain_terminality_sound-r.ensures c.settle_done.ensures
