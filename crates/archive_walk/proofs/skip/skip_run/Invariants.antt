use Rattle.book.specs.Zero.{zero_output}
use Rattle.archive_form.specs.Parse.{parse_output}
use Rattle.archive_walk.proofs.skip.skip_run.Given as goal

abbrev pub ghost-skip_list : goal.ghost-skip_list
ghost-skip_list a = (zero_output, parse_output)
