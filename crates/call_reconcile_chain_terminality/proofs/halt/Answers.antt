-- The submission stored halted is one fact, from which each later step of the rules is taken in turn.
use Rattle.std.proofs.Common.{sym, ◌∙◌}
use Rattle.std.proofs.lemmas.Result.{err_from_is_err_and}
use Rattle.part_lookup.specs.Normal.{sound_normal}
use Rattle.call_reconcile_chain_terminality.specs.Halt.{stored_by, stored_normal, unmarked_normal, unqueued_normal, halt_full, halt_sound, halt_on}
use Rattle.call_reconcile_chain_terminality.proofs.halt.Goals as goal

pub submitted_at-t-requires : goal.submitted_at-t-requires
submitted_at-t-requires c = (sound_normal c.args.b.parts c.args.b.sound, c.requires)

pub store_submitted-stored-requires : goal.store_submitted-stored-requires
store_submitted-stored-requires c = (sound_normal c.args.b.parts c.args.b.sound, c.requires)

pub unmark-requires : goal.unmark-requires
unmark-requires c = stored_normal (stored_by c.args.b.parts c.args.k c.args.b.sound c.requires c.submitted_at-t.ensures c.halted.ensures c.store_submitted-stored.ensures)

pub unqueue-out-requires : goal.unqueue-out-requires
unqueue-out-requires c = unmarked_normal (stored_by c.args.b.parts c.args.k c.args.b.sound c.requires c.submitted_at-t.ensures c.halted.ensures c.store_submitted-stored.ensures) c.unmark.ensures

pub retire-requires : goal.retire-requires
retire-requires c =
    unqueued_normal (stored_by c.args.b.parts c.args.k c.args.b.sound c.requires c.submitted_at-t.ensures c.halted.ensures c.store_submitted-stored.ensures)
    c.unmark.ensures c.unqueue-out.ensures

pub returns-in_err-parts : goal.returns-in_err-parts
returns-in_err-parts c =
    let p = err_from_is_err_and c.from_residual.result c.from_residual.ensures.1 in
    rw (p.1, p.2)
    (halt_full (stored_by c.args.b.parts c.args.k c.args.b.sound c.requires c.submitted_at-t.ensures c.halted.ensures c.store_submitted-stored.ensures)
    c.unmark.ensures c.unqueue-out.ensures (sym c.in_err-parts.was ∙ c.retire.ensures))

pub invariant_of-result : goal.invariant_of-result
invariant_of-result c = record {
  sound = halt_sound (stored_by c.args.b.parts c.args.k c.args.b.sound c.requires c.submitted_at-t.ensures c.halted.ensures c.store_submitted-stored.ensures)
      c.unmark.ensures c.unqueue-out.ensures (sym c.in_ok-parts.was ∙ c.retire.ensures);
}

pub returns : goal.returns
returns c =
    halt_on (stored_by c.args.b.parts c.args.k c.args.b.sound c.requires c.submitted_at-t.ensures c.halted.ensures c.store_submitted-stored.ensures)
    c.unmark.ensures c.unqueue-out.ensures (sym c.in_ok-parts.was ∙ c.retire.ensures)
