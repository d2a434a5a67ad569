-- A removal leaves a normal book, so `retire` may follow, and with room for the id the two are the two steps of the rules.
use Rattle.std.proofs.Common.{sym, ap, ◌∙◌}
use Rattle.std.proofs.lemmas.Option.{same_Some}
use Rattle.std.specs.Result.{result_ok}
use Rattle.call_drain.specs.Withdraw.{removed_normal, withdrawn_is}
use Rattle.call_drain.proofs.withdraw.Goals as goal

pub retire-requires : goal.retire-requires
retire-requires c = removed_normal c.args.b.now c.args.id.0 c.requires.0 c.remove_submitted-kept.ensures

pub returns-in_default : goal.returns-in_default
returns-in_default c = absurd (c.in_default.not-Ok _ (withdrawn_is c.args.b.now c.args.id.0 c.requires.0 c.requires.1 c.remove_submitted-kept.ensures c.retire.ensures))

pub returns : goal.returns
returns c =
    same_Some c.in-Ok.next _ (ap result_ok (sym c.in-Ok.is ∙ withdrawn_is c.args.b.now c.args.id.0 c.requires.0 c.requires.1 c.remove_submitted-kept.ensures c.retire.ensures))
