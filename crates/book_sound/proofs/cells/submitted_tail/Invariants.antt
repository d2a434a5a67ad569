use Rattle.book.specs.Zero.{is_zero_submitted}
use Rattle.book_sound.proofs.cells.submitted_tail.Given as goal

abbrev pub ghost-passes_from : goal.ghost-passes_from
ghost-passes_from a = is_zero_submitted
