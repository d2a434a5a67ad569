-- One law for each of the four ways that the tests leave, applied to the submission as it stands in the book.
use Rattle.base_lists.specs.Lists.{elemb}
use Rattle.base_coin_string.specs.CoinIds.{ids_in}
use Rattle.base_coin_string.specs.CoinList.{coins_in}
use Rattle.book.specs.Zero.{zero_submitted}
use Rattle.book.specs.Model.{view}
use Rattle.book.specs.Sound.{id_of}
use Rattle.book.specs.declared.SubmittedTx.{SubmittedTx}
use Rattle.book.specs.declared.SubmissionChainTerminality.{SubmissionChainTerminality}
use Rattle.rules.specs.Rule.{run}
use Rattle.rules.specs.Steps.{run_book}
use Rattle.rules.specs.Calls.ReconcileChainTerminality.{output_observed, input_spent, spent_as, halt}
use Rattle.part_lookup.specs.Normal.{sound_normal}
use Rattle.call_reconcile_chain_terminality.specs.Judge.{test_of, judge_as}
use mathlib.Core.Path.{refl, sym, ap, ◌∙◌}
use lib.ListN.{get_or}
use Rattle.call_reconcile_chain_terminality.proofs.judge.Goals as goal

pub submitted_at-t-requires : goal.submitted_at-t-requires
submitted_at-t-requires c = (sound_normal c.args.b.parts c.args.b.sound, c.requires)

pub returns-then-output_observed : goal.returns-then-output_observed
returns-then-output_observed c =
    judge_as (coins_in c.args.observed.now) (ids_in c.args.spent.now) c.args.reorg c.args.rolled_back.now (get_or (view c.args.b.parts).submitted c.args.k zero_submitted) (view c.args.b.parts)
    (test_of (λ t. output_observed (coins_in c.args.observed.now) t.entry.intent) c.submitted_at-t.ensures c.output_observed.ensures c.if-output_observed.true)
    refl
    refl
    ∙ c.halt.ensures

pub returns-then-input_spent : goal.returns-then-input_spent
returns-then-input_spent c =
    judge_as (coins_in c.args.observed.now) (ids_in c.args.spent.now) c.args.reorg c.args.rolled_back.now (get_or (view c.args.b.parts).submitted c.args.k zero_submitted) (view c.args.b.parts)
    (test_of (λ t. output_observed (coins_in c.args.observed.now) t.entry.intent) c.submitted_at-t.ensures c.output_observed.ensures c.if-output_observed.false)
    (test_of (λ t. input_spent (ids_in c.args.spent.now) t.entry.intent) c.submitted_at-t.ensures c.input_spent.ensures c.if-input_spent.true)
    refl
    ∙ sym (ap (λ (t : SubmittedTx). run_book (halt (id_of (get_or (view c.args.b.parts).submitted c.args.k zero_submitted)) (spent_as c.args.reorg t.entry.state.status.chain_terminality)) (view c.args.b.parts)) c.submitted_at-t.ensures)
    ∙ sym (ap (λ (d : SubmissionChainTerminality). run_book (halt (id_of (get_or (view c.args.b.parts).submitted c.args.k zero_submitted)) d) (view c.args.b.parts)) c.spent_as.ensures) ∙ c.halt-then-input_spent.ensures

pub returns-then-contains : goal.returns-then-contains
returns-then-contains c =
    judge_as (coins_in c.args.observed.now) (ids_in c.args.spent.now) c.args.reorg c.args.rolled_back.now (get_or (view c.args.b.parts).submitted c.args.k zero_submitted) (view c.args.b.parts)
    (test_of (λ t. output_observed (coins_in c.args.observed.now) t.entry.intent) c.submitted_at-t.ensures c.output_observed.ensures c.if-output_observed.false)
    (test_of (λ t. input_spent (ids_in c.args.spent.now) t.entry.intent) c.submitted_at-t.ensures c.input_spent.ensures c.if-input_spent.false)
    (test_of (λ t. elemb (id_of t) c.args.rolled_back.now) c.submitted_at-t.ensures c.contains.ensures.value c.if-contains.true)
    ∙ c.reactivate.ensures

pub returns : goal.returns
unfolding run
returns c =
    judge_as (coins_in c.args.observed.now) (ids_in c.args.spent.now) c.args.reorg c.args.rolled_back.now (get_or (view c.args.b.parts).submitted c.args.k zero_submitted) (view c.args.b.parts)
    (test_of (λ t. output_observed (coins_in c.args.observed.now) t.entry.intent) c.submitted_at-t.ensures c.output_observed.ensures c.if-output_observed.false)
    (test_of (λ t. input_spent (ids_in c.args.spent.now) t.entry.intent) c.submitted_at-t.ensures c.input_spent.ensures c.if-input_spent.false)
    (test_of (λ t. elemb (id_of t) c.args.rolled_back.now) c.submitted_at-t.ensures c.contains.ensures.value c.if-contains.false)
