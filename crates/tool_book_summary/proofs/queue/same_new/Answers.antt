-- Both ids are tested and both hashes are what `intent_of` promises.
use Rattle.tool_book_summary.specs.Queue.{same_new}
use Rattle.base_lists.specs.Bytes.{eqs}
use Rattle.std.specs.Prelude.{is_none}
use Rattle.std.proofs.Common.{rules, ◌≡◌}
use Rattle.tool_book_summary.proofs.queue.same_new.Goals as goal

pub returns : goal.returns
unfolding same_new
returns c =
    let first : c.is_none.result ≡ is_none c.args.d.now.intent.id = search rules in
    let second : c.is_none-2.result ≡ is_none c.args.e.now.intent.id = search rules in
    let same : c.eq.result ≡ eqs c.intent_of-f.result c.intent_of-g.result = search rules in
    rw (first, second, same, c.intent_of-f.ensures, c.intent_of-g.ensures)
