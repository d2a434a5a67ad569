-- The zero book with the place.
use Rattle.archive_read.proofs.refused.Goals as goal

pub returns : goal.returns
returns c = cc
