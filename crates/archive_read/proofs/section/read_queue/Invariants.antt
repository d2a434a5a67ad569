use Rattle.book.specs.Zero.{zero_delivery}
use Rattle.archive_form.specs.Parse.{parse_delivery}
use Rattle.archive_read.proofs.section.read_queue.Given as goal

abbrev pub ghost-read_list : goal.ghost-read_list
ghost-read_list a = (zero_delivery, λ before. parse_delivery)
