-- A bad list is refused, else the coins gathered are laid out and written as the rules write them.
use borrow.Author.Tests.{not-true, not-false}
use Rattle.book.specs.Model.{view}
use Rattle.codec_forms.specs.Wire.{enc_many}
use Rattle.rules.specs.CoinLists.{encode_coin}
use Rattle.part_written_answers.specs.Answers.{answers_as, refused_is, front}
use Rattle.call_reconciliation_input_coins.specs.Inputs.{inputs_bad, inputs_good}
use borrow.Author.Rules.{rules}
use mathlib.Core.Path.{sym, ap, ◌∙◌}
use lib.ListN.{length}
use Rattle.book.specs.declared.refusal.Refusal.TheVariants as refusals
use Rattle.call_reconciliation_input_coins.proofs.reconciliation_input_coins_sound.Goals as goal

pub returns-then-not-is_coin_list : goal.returns-then-not-is_coin_list
returns-then-not-is_coin_list c = refused_is c.args.b.parts c.args.out.now refusals.BadList (inputs_bad c.args.outputs.now (length c.args.out.now) (view c.args.b.parts) (sym c.is_coin_list.ensures ∙ not-true c.is_coin_list.result c.if-not-is_coin_list.true-raw)) c.refused.ensures

pub put_coins-p-requires : goal.put_coins-p-requires
put_coins-p-requires c = (c.input_coins_to_reconcile-coins.ensures.few, search rules)

pub write_list-requires : goal.write_list-requires
write_list-requires c = record { coins_len_bound = search rules }

pub returns : goal.returns
returns c =
    answers_as c.args.b.parts c.args.out.now (inputs_good c.args.outputs.now (length c.args.out.now) (view c.args.b.parts) (sym c.is_coin_list.ensures ∙ not-false c.is_coin_list.result c.if-not-is_coin_list.false-raw) (c.put_coins-p.ensures.0.count ∙ ap length c.input_coins_to_reconcile-coins.ensures.is) (front c.put_coins-p.ensures.0.put ∙ ap (enc_many encode_coin) c.input_coins_to_reconcile-coins.ensures.is))
    c.write_list.ensures
