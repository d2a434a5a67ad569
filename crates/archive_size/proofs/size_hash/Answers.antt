-- By whether the hash is there: a flag byte and its 32 bytes, or the flag byte alone.
use borrow.Author.Rules.{rules}
use Rattle.archive_size.specs.Lengths.{hash_there, hash_none}
use Rattle.archive_size.proofs.size_hash.Goals as goal

pub returns-then-h : goal.returns-then-h
returns-then-h c = hash_there c.args.h c.if-h.true (search rules)

pub returns-else-h : goal.returns-else-h
returns-else-h c = hash_none c.args.h c.if-h.false
