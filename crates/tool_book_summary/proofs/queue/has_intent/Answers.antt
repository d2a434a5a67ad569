-- The stored hash is compared with the one that `intent_of` promises.
use Rattle.base_lists.specs.Bytes.{eqs}
use Rattle.std.proofs.Common.{rules, ◌≡◌}
use Rattle.tool_book_summary.proofs.queue.has_intent.Goals as goal

pub returns : goal.returns
returns c =
    let e : c.eq.result ≡ eqs c.args.e.now.intent.intent_fingerprint c.intent_of.result = search rules in
    rw (e, c.intent_of.ensures)
