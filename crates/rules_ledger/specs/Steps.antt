-- The steps of the rules on the ledger, a file for each, and that they keep the law.
pub mod Note
pub mod Revise
pub mod Retain
pub mod Remove
pub mod Mark
pub mod SetAside
pub mod Finalise
pub mod Emit
use Rattle.rules.specs.Rule.{Step, note, revise, retain, emit, remove, set_aside, finalise, replay, Effect}
use Rattle.rules.specs.Steps.{silent}
use Rattle.rules_ledger.specs.Ledger.{Ledger}
use Rattle.rules_ledger.specs.Steps.Emit.{emit_ledger}
use Rattle.rules_ledger.specs.Steps.Finalise.{finalise_ledger}
use Rattle.rules_ledger.specs.Steps.Note.{note_ledger, replay_ledger}
use Rattle.rules_ledger.specs.Steps.Remove.{remove_ledger}
use Rattle.rules_ledger.specs.Steps.Retain.{retain_ledger}
use Rattle.rules_ledger.specs.Steps.Revise.{revise_ledger}
use Rattle.rules_ledger.specs.Steps.SetAside.{set_aside_ledger}

unfoldable pub on_ledger : Step → Ledger → Effect Ledger
unfolding note_ledger revise_ledger retain_ledger emit_ledger remove_ledger set_aside_ledger finalise_ledger replay_ledger
on_ledger (note n) = silent (note_ledger n)
on_ledger (revise i r) = silent (revise_ledger i r)
on_ledger (retain p) = silent (retain_ledger p)
on_ledger (emit i g) = emit_ledger i g
on_ledger (remove i) = silent (remove_ledger i)
on_ledger (set_aside i) = silent (set_aside_ledger i)
on_ledger (finalise i v) = silent (finalise_ledger i v)
on_ledger (replay i) = silent (replay_ledger i)
