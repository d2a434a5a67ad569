use Rattle.archive_form.specs.Parse.{trigger_of}
use Rattle.archive_bundle_read.proofs.kind.read_trigger.Given as goal

abbrev pub ghost-read_kind : goal.ghost-read_kind
ghost-read_kind a = trigger_of
