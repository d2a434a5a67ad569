use Rattle.archive_form.specs.Parse.{parse_replayed}
use Rattle.archive_read.proofs.section.read_replays.Given as goal

abbrev pub ghost-read_list : goal.ghost-read_list
ghost-read_list a = (0, parse_replayed a.read.0.now)
