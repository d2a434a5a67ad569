-- The sections one behind the other.
use native.Mathlib.Omega.{arith}
use Rattle.archive_walk.specs.Walk.{book_walks}
use Rattle.archive_walk.proofs.walk_book.Goals as goal

pub returns : goal.returns
returns c = book_walks (λ j. omega (arith, c.shared_slice_known-1.given j)) c.read_numbers-n.ensures c.walk_retained-t.ensures c.walk_queue-q.ensures c.read_retirements.ensures c.read_height.ensures c.read_replays.ensures
