-- The callee answers full, or the list with the id once, which put into the book is what `retiring` says.
use Rattle.std.proofs.Common.{arith}
use Rattle.std.proofs.lemmas.Result.{err_from_is_err_and}
use Rattle.book.specs.Model.{view, id_list}
use Rattle.part_ids.specs.IdLaws.{ids_counted}
use Rattle.part_lookup.specs.Normal.{sizes, retired_are}
use Rattle.part_change.specs.ChangeLaws.{retire_full, retire_is}
use Rattle.part_change.proofs.retire.Goals as goal

pub push_new-requires : goal.push_new-requires
unfolding view
push_new-requires c = (omega arith, ((sizes c.args.b c.requires).retired, ids_counted c.args.b.retired_submission_ids (id_list c.args.b.retired_submission_ids) (retired_are c.args.b c.requires)))

pub returns-in_err-push_new : goal.returns-in_err-push_new
unfolding view
returns-in_err-push_new c =
    let p = err_from_is_err_and c.from_residual.result c.from_residual.ensures.1 in
    rw (p.1, p.2) (retire_full c.args.b c.requires c.args.id.0 c.push_new.ensures.full c.in_err-push_new.was)

pub returns : goal.returns
unfolding view
returns c = retire_is c.args.b c.requires c.args.id.0 c.push_new.ensures.full c.in_ok-push_new.was c.push_new.ensures.ids
