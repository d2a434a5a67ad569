use Rattle.archive_form.specs.Parse.{parse_retired}
use Rattle.archive_read.proofs.section.read_retirements.Given as goal

abbrev pub ghost-read_list : goal.ghost-read_list
ghost-read_list a = (0, parse_retired)
