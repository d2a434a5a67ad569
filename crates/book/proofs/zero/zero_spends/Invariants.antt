use Rattle.book.specs.Zero.{is_zero_spend}
use Rattle.book.proofs.zero.zero_spends.Given as goal

abbrev pub ghost-passes_from : goal.ghost-passes_from
ghost-passes_from a = is_zero_spend
