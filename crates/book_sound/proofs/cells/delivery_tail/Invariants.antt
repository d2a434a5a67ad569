use Rattle.book.specs.Zero.{is_zero_delivery}
use Rattle.book_sound.proofs.cells.delivery_tail.Given as goal

abbrev pub ghost-passes_from : goal.ghost-passes_from
ghost-passes_from a = is_zero_delivery
