-- Theorems on specs/Steps.antt.
pub mod Emit
pub mod Remove
pub mod SetAside
use Rattle.rules.specs.Rule.{Step, note, revise, retain, emit, remove, set_aside, finalise, replay}
use Rattle.rules.specs.Steps.{on_book}
use Rattle.rules_ledger.specs.Law.{Law}
use Rattle.rules_ledger.proofs.Steps.Emit.{emit_law}
use Rattle.rules_ledger.specs.Steps.Finalise.{finalise_law}
use Rattle.rules_ledger.specs.Steps.Note.{note_law, replay_law}
use Rattle.rules_ledger.proofs.Steps.Remove.{remove_law}
use Rattle.rules_ledger.specs.Steps.Retain.{retain_law}
use Rattle.rules_ledger.specs.Steps.Revise.{revise_law}
use Rattle.rules_ledger.proofs.Steps.SetAside.{set_aside_law}
use Rattle.rules_ledger.specs.Steps.{on_ledger}

pub law : (p : Step) → Law (on_book p) (on_ledger p)
unfolding on_book on_ledger
law (note n) = note_law n
law (revise i r) = revise_law i r
law (retain p) = retain_law p
law (emit i g) = emit_law i g
law (remove i) = remove_law i
law (set_aside i) = set_aside_law i
law (finalise i v) = finalise_law i v
law (replay i) = replay_law i
