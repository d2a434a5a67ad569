-- The sum is the length of the book's archive by `book_size`: the parts' sizes are the callees' answers, and each listed id counts eight bytes.
use Rattle.std.proofs.Common.{rules}
use Rattle.archive_size.specs.Lengths.{book_size}
use Rattle.archive_size.proofs.size_archive.Goals as goal

pub returns : goal.returns
returns c =
    book_size c.args.b c.size_first-s.result
    c.size_first-q.result c.min-r.result c.size_height.result c.min-p.result c.size_first-s.ensures
    c.size_first-q.ensures c.min-r.ensures (search rules) c.size_height.ensures c.min-p.ensures (search rules)
