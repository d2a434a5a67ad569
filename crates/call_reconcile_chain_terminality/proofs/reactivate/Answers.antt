-- The submission stored Active at its place is the rules' revision by id.
use Rattle.part_lookup.specs.Normal.{sound_normal}
use Rattle.call_reconcile_chain_terminality.specs.Halt.{active_sound, active_on}
use Rattle.call_reconcile_chain_terminality.proofs.reactivate.Goals as goal

pub submitted_at-t-requires : goal.submitted_at-t-requires
submitted_at-t-requires c = (sound_normal c.args.b.parts c.args.b.sound, c.requires)

pub store_submitted-requires : goal.store_submitted-requires
store_submitted-requires c = (sound_normal c.args.b.parts c.args.b.sound, c.requires)

pub invariant_of-result : goal.invariant_of-result
invariant_of-result c = record { sound = active_sound c.args.b.parts c.args.b.sound c.args.k c.requires c.submitted_at-t.ensures c.with_terminality-entry.ensures c.store_submitted.ensures }

pub returns : goal.returns
returns c = active_on c.args.b.parts c.args.b.sound c.args.k c.requires c.submitted_at-t.ensures c.with_terminality-entry.ensures c.store_submitted.ensures
