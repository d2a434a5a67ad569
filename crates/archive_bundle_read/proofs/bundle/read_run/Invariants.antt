use Rattle.book.specs.Zero.{zero_output}
use Rattle.archive_form.specs.Parse.{parse_output}
use Rattle.archive_bundle_read.proofs.bundle.read_run.Given as goal

abbrev pub ghost-read_list : goal.ghost-read_list
ghost-read_list a = (zero_output, λ before. parse_output)
