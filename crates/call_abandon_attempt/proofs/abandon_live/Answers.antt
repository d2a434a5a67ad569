-- The rules withdraw the submission: it is removed, and then retired or the call refused as full.
use Rattle.std.proofs.Common.{sym, ◌∙◌}
use Rattle.book.specs.Sound.{id_of}
use Rattle.part_lookup.specs.Normal.{sound_normal}
use Rattle.part_withdraw.specs.WithdrawLaws.{kept_normal}
use Rattle.call_abandon_attempt.specs.Abandoning.{abandon_full, abandon_answer}
use Rattle.call_abandon_attempt.proofs.abandon_live.Goals as goal

pub remove_submitted-rest-requires : goal.remove_submitted-rest-requires
remove_submitted-rest-requires c = sound_normal c.args.b.parts c.args.b.sound

pub retire-requires : goal.retire-requires
retire-requires c = kept_normal c.args.b.parts c.args.b.sound (id_of c.submission_at.result) c.remove_submitted-rest.ensures

pub returns-in-Ok : goal.returns-in-Ok
returns-in-Ok c =
    c.done.ensures ∙ abandon_answer c.args.b.parts c.args.b.sound c.args.k c.submission_at.ensures c.remove_submitted-rest.ensures (sym c.in-Ok.is ∙ c.retire.ensures)

pub returns-in-Err : goal.returns-in-Err
returns-in-Err c =
    c.refused.ensures ∙ abandon_full c.args.b.parts c.args.b.sound c.args.k c.submission_at.ensures c.remove_submitted-rest.ensures (sym c.in-Err.is ∙ c.retire.ensures)
