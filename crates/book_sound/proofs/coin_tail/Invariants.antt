use Rattle.base_lists.specs.Lists.{is_zero}
use Rattle.book_sound.proofs.coin_tail.Given as goal

abbrev pub ghost-passes_from : goal.ghost-passes_from
ghost-passes_from a = is_zero
