-- By whether an attempt is there: 42 bytes of flag, token, goal and drained fingerprint before the hash, or the flag byte alone.
use Rattle.archive_size.specs.Lengths.{slot_there, slot_none}
use borrow.Author.Rules.{rules}
use Rattle.archive_size.proofs.size_slot.Goals as goal

pub returns-then-a : goal.returns-then-a
returns-then-a c = slot_there c.args.a c.size_hash.result c.if-a.true (search rules) c.size_hash.ensures

pub returns-else-a : goal.returns-else-a
returns-else-a c = slot_none c.args.a c.if-a.false
