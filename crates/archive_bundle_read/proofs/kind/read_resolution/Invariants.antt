use Rattle.archive_form.specs.Parse.{resolution_of}
use Rattle.archive_bundle_read.proofs.kind.read_resolution.Given as goal

abbrev pub ghost-read_kind : goal.ghost-read_kind
ghost-read_kind a = resolution_of
