-- Too many ids and a bad list are refused, else the outputs laid out are written as the rules write them.
use borrow.Author.Tests.{not-true, not-false}
use Rattle.book.specs.Model.{view}
use Rattle.part_written_answers.specs.Answers.{answers_as, refused_is, front}
use Rattle.call_absent_outputs_for_ids.specs.Outputs.{many_ids, outputs_bad, outputs_good}
use borrow.Author.Rules.{rules}
use mathlib.Core.Path.{sym, ◌∙◌}
use lib.ListN.{length}
use Rattle.book.specs.declared.refusal.Refusal.TheVariants as refusals
use Rattle.call_absent_outputs_for_ids.proofs.absent_outputs_for_ids_sound.Goals as goal

pub returns-then-ids-gt64 : goal.returns-then-ids-gt64
returns-then-ids-gt64 c = refused_is c.args.b.parts c.args.out.now refusals.BadList (many_ids c.args.ids.now c.args.absent.now (length c.args.out.now) (view c.args.b.parts) c.if-ids-gt64.true) c.refused.ensures

pub returns-then-not-is_coin_list : goal.returns-then-not-is_coin_list
returns-then-not-is_coin_list c = refused_is c.args.b.parts c.args.out.now refusals.BadList (outputs_bad c.args.ids.now c.args.absent.now (length c.args.out.now) (view c.args.b.parts) c.if-ids-gt64.false (sym c.is_coin_list.ensures ∙ not-true c.is_coin_list.result c.if-not-is_coin_list.true-raw)) c.refused-then-not-is_coin_list.ensures

pub put_all_absent-p-requires : goal.put_all_absent-p-requires
put_all_absent-p-requires c = record { in_bounds = search rules }

pub write_list-requires : goal.write_list-requires
write_list-requires c = record { coins_len_bound = search rules }

pub returns : goal.returns
returns c =
    answers_as c.args.b.parts c.args.out.now (outputs_good c.args.ids.now c.args.absent.now (length c.args.out.now) (view c.args.b.parts) c.if-ids-gt64.false (sym c.is_coin_list.ensures ∙ not-false c.is_coin_list.result c.if-not-is_coin_list.false-raw) c.put_all_absent-p.ensures.listed.count (front c.put_all_absent-p.ensures.listed.put))
    c.write_list.ensures
