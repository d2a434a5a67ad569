use Rattle.book.specs.Zero.{zero_spend}
use Rattle.archive_form.specs.Parse.{parse_spend}
use Rattle.archive_walk.proofs.skip.skip_bundle.Given as goal

-- `a.skip_one.0.now` is the `base` that the closure lends
abbrev pub ghost-skip_list : goal.ghost-skip_list
ghost-skip_list a = (zero_spend, parse_spend a.skip_one.0.now)
