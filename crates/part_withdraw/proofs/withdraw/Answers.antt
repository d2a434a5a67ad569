-- The removal leaves a normal book that holds the lists of the rules' removal, so retiring from it is retiring from those.
use Rattle.std.proofs.Common.{sym, ◌∙◌}
use Rattle.std.proofs.lemmas.Result.{err_from_is_err_and}
use Rattle.part_lookup.specs.Normal.{sound_normal}
use Rattle.part_withdraw.specs.WithdrawLaws.{kept_normal, withdraw_full, withdraw_on, next_sound}
use Rattle.part_withdraw.proofs.withdraw.Goals as goal

pub remove_submitted-kept-requires : goal.remove_submitted-kept-requires
remove_submitted-kept-requires c = sound_normal c.args.b.parts c.args.b.sound

pub retire-requires : goal.retire-requires
retire-requires c = kept_normal c.args.b.parts c.args.b.sound c.args.id.0 c.remove_submitted-kept.ensures

pub returns-in_err-parts : goal.returns-in_err-parts
returns-in_err-parts c =
    let p = err_from_is_err_and c.from_residual.result c.from_residual.ensures.1 in
    rw (p.1, p.2) (withdraw_full c.args.b.parts c.args.b.sound c.args.id.0 c.remove_submitted-kept.ensures (sym c.in_err-parts.was ∙ c.retire.ensures))

pub invariant_of-result : goal.invariant_of-result
invariant_of-result c = record { sound = next_sound c.args.b.parts c.args.b.sound c.args.id.0 c.remove_submitted-kept.ensures (sym c.in_ok-parts.was ∙ c.retire.ensures) }

pub returns : goal.returns
returns c = withdraw_on c.args.b.parts c.args.b.sound c.args.id.0 c.remove_submitted-kept.ensures (sym c.in_ok-parts.was ∙ c.retire.ensures)
