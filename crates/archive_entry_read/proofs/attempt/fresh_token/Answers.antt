-- A token is in the tokens held and in the live slot's where it is in either.
use mathlib.Core.Bool.{Bool, not, ◌&&◌}
use mathlib.Core.Path.{◌≡◌, ap, ◌∙◌}
use lib.Dec.{ltb}
use Rattle.std.proofs.Common.{rules}
use Rattle.book.specs.Sound.{attempt_token}
use Rattle.archive_entry_read.specs.Entries.{elem_any, elem_both}
use Rattle.archive_entry_read.proofs.attempt.fresh_token.Goals as goal

pub returns : goal.returns
returns c =
    let below : c.lt.result ≡ ltb c.args.token.0 c.args.next.0 = search rules in
    rw below (ap (λ (b : Bool). ltb c.args.token.0 c.args.next.0 && not b) (elem_both c.args.token.0 c.args.held.now (attempt_token c.args.live) (c.contains-before.ensures.value ∙ elem_any c.args.token.0 c.args.held.now) c.slot_holds-twin.ensures))
