-- A slot has the token where it is present and its own token is that one.
use mathlib.Core.Path.{◌≡◌}
use lib.Dec.{eqb}
use Rattle.std.proofs.Common.{rules}
use Rattle.archive_entry_read.specs.Entries.{slot_elem}
use Rattle.archive_entry_read.proofs.attempt.slot_holds.Goals as goal

pub returns : goal.returns
returns c =
    let q : c.eq.result ≡ eqb c.args.a.attempt.token.0 c.args.token.0 = search rules in
    rw q (slot_elem c.args.a.present c.args.a.attempt.token.0 c.args.token.0)
