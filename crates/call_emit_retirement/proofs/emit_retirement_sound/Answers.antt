-- One law for each of the two answers, told apart by whether the retirement would be a 65th.
use Rattle.std.proofs.Common.{sym, ◌∙◌}
use Rattle.part_lookup.specs.Normal.{sound_normal}
use Rattle.call_emit_retirement.specs.Emitting.{emit_full, emit_is}
use Rattle.call_emit_retirement.proofs.emit_retirement_sound.Goals as goal

pub retire-requires : goal.retire-requires
retire-requires c = sound_normal c.args.b.parts c.args.b.sound

pub returns-in-Ok : goal.returns-in-Ok
returns-in-Ok c = c.done.ensures ∙ emit_is c.args.b.parts c.args.b.sound c.args.id.0 (sym c.in-Ok.is ∙ c.retire.ensures)

pub returns-in-Err : goal.returns-in-Err
returns-in-Err c = c.refused.ensures ∙ emit_full c.args.b.parts c.args.b.sound c.args.id.0 (sym c.in-Err.is ∙ c.retire.ensures)
