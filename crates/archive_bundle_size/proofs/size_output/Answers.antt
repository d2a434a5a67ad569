-- The 32 bytes of the puzzle hash, a length that the array type gives, and the 8 bytes of the amount make 40.
use borrow.Author.Rules.{rules}
use Rattle.archive_bundle_size.specs.Lengths.{output_size}
use Rattle.archive_bundle_size.proofs.size_output.Goals as goal

pub returns : goal.returns
returns c = output_size c.args.o (search rules)
