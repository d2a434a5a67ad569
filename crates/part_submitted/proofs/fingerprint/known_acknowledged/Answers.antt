-- Each return has its law: none acknowledged, the base, the fee bundle, or no fee bundle, where the current one is the base.
use mathlib.Core.Path.{sym, ◌∙◌}
use Rattle.part_submitted.specs.Known.{known_none, known_base, known_fee, known_plain}
use Rattle.part_submitted.proofs.fingerprint.known_acknowledged.Goals as goal

pub returns-then-acknowledges : goal.returns-then-acknowledges
returns-then-acknowledges c = known_base _ c.if-e.true (sym c.acknowledges.ensures ∙ c.if-acknowledges.true)

pub returns-then-e-2 : goal.returns-then-e-2
returns-then-e-2 c =
    c.acknowledges-then-e-2.ensures
    ∙ known_fee
    _
    c.if-e.true
    (sym c.acknowledges.ensures ∙ c.if-acknowledges.false)
    c.if-e-2.true

pub returns-then-e : goal.returns-then-e
returns-then-e c =
    known_plain
    _
    c.if-e.true
    (sym c.acknowledges.ensures ∙ c.if-acknowledges.false)
    c.if-e-2.false

pub returns : goal.returns
returns c = known_none _ c.if-e.false
