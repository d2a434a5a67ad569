-- A number that must not be listed.
use Rattle.archive_form.specs.Parse.{parse_retired}
use Rattle.base_lists.specs.Lists.{elemb}
use mathlib.Core.Bool.{not}
use Rattle.codec_cursor.specs.Cursor.{reads_checked}
use mathlib.Core.Path.{ap, ◌∙◌}
use Rattle.archive_entry_read.specs.Entries.{elem_any}
use Rattle.archive_entry_read.proofs.submission.read_new_id.Goals as goal

pub returns : goal.returns
unfolding parse_retired
returns c = rw c.pass.ensures (reads_checked (λ x. not (elemb x c.args.listed.now)) c.read_number-id.ensures (ap not (c.contains-held.ensures.value ∙ elem_any c.read_number-id.result c.args.listed.now)))
