-- The code asks the rule's tests in the rule's order: present, goal, fingerprint. A test `==` is the rule's `eqs`.
use Rattle.std.specs.Prelude.{◌≡◌, true, false}
use Rattle.std.proofs.Common.{sym}
use Rattle.base_lists.specs.Bytes.{eqs}
use Rattle.rules.specs.Steps.Slots.{relationship_to}
use Rattle.part_slots.proofs.relationship.Goals as goal

pub returns-then-eq : goal.returns-then-eq
unfolding relationship_to
returns-then-eq c =
    let e : eqs c.resolved_variant_fingerprint.result c.args.fingerprint ≡ true = sym c.if-eq.ensures in
    rw (c.if-p.true, c.in-EnsureBroadcast.is, ← c.resolved_variant_fingerprint.ensures, e)

pub returns-else-eq : goal.returns-else-eq
unfolding relationship_to
returns-else-eq c =
    let e : eqs c.resolved_variant_fingerprint.result c.args.fingerprint ≡ false = sym c.if-eq.ensures in
    rw (c.if-p.true, c.in-EnsureBroadcast.is, ← c.resolved_variant_fingerprint.ensures, e)
