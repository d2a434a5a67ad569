use Rattle.archive_bundle_write.proofs.each.append_list.Given as goal

abbrev pub ghost-append_each : goal.ghost-append_each
ghost-append_each g a = g.form
