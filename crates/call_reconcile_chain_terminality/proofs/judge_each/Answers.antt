-- Each turn is the rules' judgement of the submission at the index, which leaves those behind it.
use Rattle.std.proofs.lemmas.Result.{err_from_is_err_and}
use Rattle.base_lists.specs.Laws.{rest_step}
use Rattle.base_coin_string.specs.CoinIds.{ids_in}
use Rattle.base_coin_string.specs.CoinList.{coins_in}
use Rattle.book.specs.Zero.{zero_submitted}
use Rattle.book.specs.Model.{view}
use Rattle.part_replies.specs.Reply.{outcome_by}
use Rattle.part_lookup.specs.Normal.{sound_normal, submitted_are}
use Rattle.part_sound_laws.specs.Holds.{holds_sound}
use Rattle.part_sound_laws.specs.Outcomes.{each_undone, each_done}
use Rattle.call_reconcile_chain_terminality.specs.Judge.{judges, left_turn}
use native.Mathlib.Omega.{arith}
use mathlib.Core.Path.{refl, sym, ap, ◌∙◌}
use lib.ListN.{drop_of_length-le}
use Rattle.call_reconcile_chain_terminality.proofs.judge_each.Goals as goal

pub loop-k-init : goal.loop-k-init
loop-k-init c = ((submitted_are c.args.b.parts (sound_normal c.args.b.parts c.args.b.sound)).count, refl)

pub judge-requires : goal.judge-requires
judge-requires c = omega (arith, c.loop-k.invariant.0, c.loop-k-test.true)

pub returns-in_err-out : goal.returns-in_err-out
returns-in_err-out c =
    let p = err_from_is_err_and c.from_residual.result c.from_residual.ensures.1 in
    rw (p.1, p.2)
    (each_undone (judges (coins_in c.args.observed.now) (ids_in c.args.spent.now) c.args.reorg c.args.rolled_back.now) (view c.loop-k.out.parts) c.loop-k.invariant.1
    (rest_step (view c.loop-k.out.parts).submitted c.loop-k.k zero_submitted (omega (arith, c.loop-k.invariant.0, c.loop-k-test.true)))
    (c.judge.ensures ∙ ap (outcome_by tt) c.in_err-out.was))

pub loop-k-preserved : goal.loop-k-preserved
loop-k-preserved c =
    let t = left_turn (coins_in c.args.observed.now) (ids_in c.args.spent.now) c.args.reorg c.args.rolled_back.now (view c.loop-k.out.parts) (holds_sound c.loop-k.out.parts c.loop-k.out.sound).sound c.loop-k.k
    (omega (arith, c.loop-k.invariant.0, c.loop-k-test.true)) c.loop-k.invariant.1 (c.judge.ensures ∙ ap (outcome_by tt) c.in_ok-out.was) in
    (c.loop-k.invariant.0 ∙ sym t.0, t.1)

pub returns : goal.returns
returns c =
    each_done (judges (coins_in c.args.observed.now) (ids_in c.args.spent.now) c.args.reorg c.args.rolled_back.now) (view c.loop-k.out.parts) c.loop-k.invariant.1
    (drop_of_length-le (view c.loop-k.out.parts).submitted {i = c.loop-k.k} (omega (arith, c.loop-k.invariant.0, c.loop-k-test.false)))
