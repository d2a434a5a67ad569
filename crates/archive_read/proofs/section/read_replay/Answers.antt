-- A number that must be above the last and retained.
use mathlib.Core.Bool.{◌&&◌}
use Rattle.base_lists.specs.Lists.{elemb}
use Rattle.archive_form.specs.Parse.{above, parse_replayed}
use Rattle.codec_cursor.specs.Cursor.{reads_checked}
use Rattle.archive_entry_read.specs.Entries.{elem_any}
use Rattle.std.proofs.Common.{◌∙◌}
use Rattle.archive_read.proofs.section.read_replay.Goals as goal

pub returns : goal.returns
unfolding parse_replayed
returns c = rw c.pass.ensures (reads_checked (λ x. above c.args.earlier.now x && elemb x c.args.retained.now) c.read_number-n.ensures (λ i. c.rises-up.ensures i && (c.contains-held.ensures.value ∙ elem_any c.read_number-n.result c.args.retained.now) i))
