use Rattle.book.specs.Zero.{zero_spend}
use Rattle.archive_form.specs.Parse.{parse_spend}
use Rattle.archive_bundle_read.proofs.bundle.read_bundle.Given as goal

-- `a.read.0.now` is the `base` that the closure lends
abbrev pub ghost-read_list : goal.ghost-read_list
ghost-read_list a = (zero_spend, λ before. parse_spend a.read.0.now)
