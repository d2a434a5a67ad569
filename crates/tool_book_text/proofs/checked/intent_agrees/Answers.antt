-- The stored hash is compared with the one that `intent_fingerprint` promises.
use Rattle.tool_book_text.specs.Checked.{intent_agrees}
use Rattle.base_lists.specs.Bytes.{eqs}
use Rattle.std.proofs.Common.{rules, ◌≡◌}
use Rattle.tool_book_text.proofs.checked.intent_agrees.Goals as goal

pub returns : goal.returns
unfolding intent_agrees
returns c =
    let e : c.eq.result ≡ eqs c.args.e.intent.intent_fingerprint c.intent_fingerprint.result = search rules in
    rw (e, c.intent_fingerprint.ensures)
